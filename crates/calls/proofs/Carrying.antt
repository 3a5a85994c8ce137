-- What stands before a call stands after it. Assumes nothing.
use Rattle.std.proofs.Common.{◌≡◌, ℕ, ◌≤◌, Bool, true, ◌⊎◌, List, [], ◌∷◌, map, length, sym, refl, ap, ◌∙◌, subst, inl, inr, arith}
use Rattle.refusals.specs.Refusals.{Answer, Accepted, Refused, and_then, is_accepted, on_accepted}
use Rattle.page_store.specs.Meanings.{Meaning, count_of}
use Rattle.keys.specs.Kinds.{Kind}
use Rattle.batches.specs.Layout.{Row}
use Rattle.batches.specs.Reading.{kind_code, rows_in}
use Rattle.batches.specs.Opening.{open_answer}
use Rattle.batches.specs.Reversal.{reversal, reversed_row}
use Rattle.book.specs.Books.{Book, plain, count, postings_of}
use Rattle.book.specs.Merging.{lines_under, lines_taken, posting_lines, pages_answer, merge_answer, check_answer}
use Rattle.book.specs.Entries.{Entries, paged, book_of}
use Rattle.book.specs.Laws.{AcceptedInTurn, Reversed, spelled}
use Rattle.book.proofs.Merges.{history_book, postings_are_counted, reversals_restore}
use Rattle.tree.specs.Valid.{Valid}
use Rattle.tree.proofs.Highest.{at_most_six}
use Rattle.calls.specs.States.{State, state_of, pages_of, free_in}
use Rattle.calls.specs.Merges.{judgement, merged, Merges, MergesBytes}
use Rattle.calls.specs.Standing.{AcceptedBatches, history_of, book_of_batches, TreeOf, Restores, LastCanBeReversed, Standing}
use Rattle.calls.specs.Making.{Makes}
use Rattle.calls.specs.Runs.{Making, Opening, Merging, LookingUp, Listing, Settling, if_accepted, StandingIsCarriedOn}
use Rattle.calls.proofs.Reversing.{reversal_opens, reversal_keeps_the_kind, reversal_rows}
use Rattle.calls.proofs.Accepting.{merged_as_book, accepted_kind, merged_book, accepted_on, only_for_pages}

-- nothing but settling asks whether the store is settled
module _ (kind : Kind) (meaning : Meaning) (is_open settled settled' : Bool) where
  merges_resettled : (batch : List ℕ) (answer : Answer ℕ) (after : State) → Merges kind (state_of meaning is_open settled') batch answer after → Merges kind (state_of meaning is_open settled) batch answer after
  merges_resettled batch answer after merges = record {
    keeps_the_count = merges.keeps_the_count;
    leaves_the_openness = merges.leaves_the_openness;
    refused_changes_nothing = merges.refused_changes_nothing;
    no_rows_change_nothing = merges.no_rows_change_nothing;
    refuses_without_a_page = merges.refuses_without_a_page;
    refused_leaves_the_pages = merges.refused_leaves_the_pages;
    accepted_carries_out_every_line = merges.accepted_carries_out_every_line;
  }

  bytes_resettled : (batch : List ℕ) (answer : Answer ℕ) (after : State) → MergesBytes kind (state_of meaning is_open settled') batch answer after → MergesBytes kind (state_of meaning is_open settled) batch answer after
  bytes_resettled batch answer after merges = record {
    refuses_what_does_not_open = merges.refuses_what_does_not_open;
    merges_what_opens = λ opened. merges_resettled batch answer after (merges.merges_what_opens opened);
  }

  reversed_resettled : (batches : AcceptedBatches) → LastCanBeReversed kind batches (state_of meaning is_open settled) → LastCanBeReversed kind batches (state_of meaning is_open settled')
  reversed_resettled [] can = tt
  reversed_resettled (last ∷ earlier) can = (can.0, λ answer after merges. can.1 answer after (bytes_resettled (reversal last) answer after merges))

  resettled : (batches : AcceptedBatches) → Standing kind batches (state_of meaning is_open settled) → Standing kind batches (state_of meaning is_open settled')
  resettled batches standing = record {
    is_open = standing.is_open;
    at_most_65536_pages = standing.at_most_65536_pages;
    batches_have_opened = standing.batches_have_opened;
    batches_were_accepted_in_turn = standing.batches_were_accepted_in_turn;
    accepted_lines_are_counted = standing.accepted_lines_are_counted;
    the_last_batch_can_be_reversed = reversed_resettled batches standing.the_last_batch_can_be_reversed;
    pages_are_the_tree_of_the_book = standing.pages_are_the_tree_of_the_book;
    entries_are_those_of_the_batches = standing.entries_are_those_of_the_batches;
  }

-- a call that leaves the pages and the openness
pub unmoved : (kind : Kind) (batches : AcceptedBatches) (before after : State) → after.meaning ≡ before.meaning → after.is_open ≡ before.is_open → Standing kind batches before → Standing kind batches after
unmoved kind batches before after pages openness standing =
    resettled kind after.meaning after.is_open before.settled after.settled batches
    (subst (Standing kind batches) (λ i. record { meaning = sym pages i; is_open = sym openness i; settled = before.settled }) standing)

-- on an open index the judgement is the check
judged : (kind : Kind) (state : State) (free : ℕ) (batch : List ℕ) (entries : Entries) (answer : Answer Unit) → state.is_open ≡ true → check_answer kind paged free (kind_code batch) (rows_in batch) entries ≡ answer → judgement kind state.is_open free batch entries ≡ answer
judged kind state free batch entries answer is_open e =
    ap (λ (is_open : Bool). judgement kind is_open free batch entries) is_open ∙ e

-- the reversal of the batch accepted last, on pages that are the tree of the book after it
module _ (kind : Kind) (last : List ℕ) (earlier : AcceptedBatches) (state : State)
    (is_open : state.is_open ≡ true) (opened : open_answer last ≡ Accepted tt) (code : kind_code last ≡ kind.code)
    (in_turn : AcceptedInTurn kind (history_of (last ∷ earlier))) (tree : TreeOf kind (book_of_batches kind (last ∷ earlier)) (pages_of state)) where
  law : Reversed kind kind.code (rows_in last) (book_of_batches kind earlier) (book_of_batches kind (last ∷ earlier))
  law =
      reversals_restore kind in_turn.0.free kind.code (rows_in last) (book_of_batches kind earlier) (book_of_batches kind (last ∷ earlier))
      (history_book kind (history_of earlier) in_turn.1) in_turn.0.numbers_rise in_turn.0.is_accepted

  abbrev entries : Entries
  entries = tree.entries

  abbrev free : ℕ
  free = free_in tree.valid

  abbrev check : Answer Unit
  check = check_answer kind paged free (kind_code (reversal last)) (rows_in (reversal last)) entries

  abbrev restored : Book
  restored = lines_taken kind plain (lines_under (map reversed_row (rows_in last))) (book_of_batches kind (last ∷ earlier))

  answered : spelled (and_then check (Accepted (merged kind (reversal last) entries))) ≡ and_then (pages_answer free (posting_lines (lines_under (map reversed_row (rows_in last))))) (Accepted restored)
  answered =
      sym (merged_as_book kind (reversal last) (reversal_opens last opened) (pages_of state) entries tree.valid free)
      ∙ ap (λ (c : ℕ). merge_answer kind plain free c (rows_in (reversal last)) (book_of entries)) (reversal_keeps_the_kind last opened ∙ code)
      ∙ ap (λ (r : List Row). merge_answer kind plain free kind.code r (book_of entries)) (reversal_rows last opened)
      ∙ ap (merge_answer kind plain free kind.code (map reversed_row (rows_in last))) tree.spells_the_book
      ∙ law.is_refused_only_for_pages free

  restores : (answer : Answer ℕ) (after : State) → MergesBytes kind state (reversal last) answer after → Restores kind (book_of_batches kind earlier) answer after
  restores answer after merges = go (only_for_pages check free (posting_lines (lines_under (map reversed_row (rows_in last)))) (merged kind (reversal last) entries) restored answered)
    where
      both : Merges kind state (reversal last) answer after
      both = merges.merges_what_opens (reversal_opens last opened)

      go : ((check ≡ Accepted tt) × (book_of (merged kind (reversal last) entries) ≡ restored)) ⊎ (check ≡ Refused 8 0) → Restores kind (book_of_batches kind earlier) answer after
      go (inl accepted) =
          let done = both.accepted_carries_out_every_line entries tree.valid (judged kind state free (reversal last) entries (Accepted tt) is_open accepted.0) in
          inl (
            length (merged kind (reversal last) entries),
            done.0,
            record {
              entries = merged kind (reversal last) entries;
              valid = done.1;
              each_key_holds_the_same = λ key lawful n. ap (λ (book : Book). count n (postings_of kind book key)) accepted.1 ∙ law.restores_each_key key lawful n;
            },
          )
      go (inr refused) = inr (both.refused_leaves_the_pages entries tree.valid 8 0 (judged kind state free (reversal last) entries (Refused 8 0) is_open refused)).0

  pub can_be_reversed : LastCanBeReversed kind (last ∷ earlier) state
  can_be_reversed = (ap is_accepted (reversal_opens last opened), restores)

-- an accepted merge on what stands
module _ (kind : Kind) (batches : AcceptedBatches) (before after : State) (batch : List ℕ) (standing : Standing kind batches before)
    (opened : open_answer batch ≡ Accepted tt) (count_kept : count_of after.meaning ≡ count_of before.meaning) (openness : after.is_open ≡ before.is_open) where
  abbrev held : Entries
  held = standing.pages_are_the_tree_of_the_book.entries

  abbrev tree_before : Valid kind (pages_of before) held
  tree_before = standing.pages_are_the_tree_of_the_book.valid

  module _ (accepted : check_answer kind paged (free_in tree_before) (kind_code batch) (rows_in batch) held ≡ Accepted tt) (valid : Valid kind (pages_of after) (merged kind batch held)) where
    in_turn : AcceptedInTurn kind (history_of (batch ∷ batches))
    in_turn = (
      accepted_on kind batch opened (pages_of before) held tree_before (free_in tree_before) accepted (book_of_batches kind batches) standing.pages_are_the_tree_of_the_book.spells_the_book,
      standing.batches_were_accepted_in_turn,
    )

    code : kind_code batch ≡ kind.code
    code = accepted_kind kind batch opened (pages_of before) held tree_before (free_in tree_before) accepted

    few : count_of after.meaning ≤ 65536
    few = let h = standing.at_most_65536_pages in omega arith

    tree_after : TreeOf kind (book_of_batches kind (batch ∷ batches)) (pages_of after)
    tree_after = record {
      entries = merged kind batch held;
      valid = valid;
      spells_the_book =
          merged_book kind batch opened (pages_of before) held tree_before (free_in tree_before) accepted
          ∙ ap (lines_taken kind plain (lines_under (rows_in batch))) standing.pages_are_the_tree_of_the_book.spells_the_book;
      at_most_6_levels = at_most_six kind (pages_of after) (merged kind batch held) valid few;
    }

    pub stands_with_it : Standing kind (batch ∷ batches) after
    unfolding tree_after rows_in
    stands_with_it = record {
      is_open = openness ∙ standing.is_open;
      at_most_65536_pages = few;
      batches_have_opened = ((ap is_accepted opened, code), standing.batches_have_opened);
      batches_were_accepted_in_turn = in_turn;
      accepted_lines_are_counted = postings_are_counted kind (history_of (batch ∷ batches)) in_turn;
      the_last_batch_can_be_reversed = can_be_reversed kind batch batches after (openness ∙ standing.is_open) opened code in_turn tree_after;
      pages_are_the_tree_of_the_book = tree_after;
      entries_are_those_of_the_batches = ap (merged kind batch) standing.entries_are_those_of_the_batches;
    }

-- a merge of any bytes
merge_carries_on : (kind : Kind) (batches : AcceptedBatches) (before after : State) (bytes : List ℕ) (answer : Answer ℕ) → Standing kind batches before → MergesBytes kind before bytes answer after → Standing kind (if_accepted bytes answer batches) after
merge_carries_on kind batches before after bytes answer standing merges = opening (open_answer bytes) refl
  where
    entries : Entries
    entries = standing.pages_are_the_tree_of_the_book.entries

    valid : Valid kind (pages_of before) entries
    valid = standing.pages_are_the_tree_of_the_book.valid

    refused : (number place : ℕ) → answer ≡ Refused number place → after.meaning ≡ before.meaning → after.is_open ≡ before.is_open → Standing kind (if_accepted bytes answer batches) after
    refused number place e pages openness =
        subst (λ (a : Answer ℕ). Standing kind (if_accepted bytes a batches) after) (sym e) (unmoved kind batches before after pages openness standing)

    judging : open_answer bytes ≡ Accepted tt → (check : Answer Unit) → check_answer kind paged (free_in valid) (kind_code bytes) (rows_in bytes) entries ≡ check → Standing kind (if_accepted bytes answer batches) after
    judging opened (Accepted tt) e =
        let both = merges.merges_what_opens opened in
        let done = both.accepted_carries_out_every_line entries valid (judged kind before (free_in valid) bytes entries (Accepted tt) standing.is_open e) in
        subst (λ (a : Answer ℕ). Standing kind (if_accepted bytes a batches) after) (sym done.0)
        (stands_with_it kind batches before after bytes standing opened both.keeps_the_count both.leaves_the_openness e done.1)
    judging opened (Refused number place) e =
        let both = merges.merges_what_opens opened in
        let left = both.refused_leaves_the_pages entries valid number place (judged kind before (free_in valid) bytes entries (Refused number place) standing.is_open e) in
        refused number place left.0 left.1 both.leaves_the_openness

    opening : (a : Answer Unit) → open_answer bytes ≡ a → Standing kind (if_accepted bytes answer batches) after
    opening (Accepted tt) e = judging e (check_answer kind paged (free_in valid) (kind_code bytes) (rows_in bytes) entries) refl
    opening (Refused number place) e = let left = merges.refuses_what_does_not_open number place e in refused number place left.0 left.1 left.2

remade : (kind : Kind) (batches : AcceptedBatches) (before after : State) (answer : Answer Unit) → Standing kind batches before → Makes kind before answer after → Standing kind (on_accepted answer [] batches) after
remade kind batches before after answer standing makes =
    let tree = makes.makes_an_empty_tree in
    let eight : 8 ≤ count_of before.meaning = standing.pages_are_the_tree_of_the_book.valid.at_least_8_pages in
    let done = tree.writes_a_tree_of_no_entries eight in
    let bound : count_of after.meaning ≤ 65536 = let kept = tree.keeps_the_count in let few = standing.at_most_65536_pages in omega arith in
    subst (λ (a : Answer Unit). Standing kind (on_accepted a [] batches) after) (sym done.0) (record {
      is_open = makes.opens_if_accepted ∙ ap (λ (a : Answer Unit). on_accepted a true before.is_open) done.0;
      at_most_65536_pages = bound;
      batches_have_opened = tt;
      batches_were_accepted_in_turn = tt;
      accepted_lines_are_counted = postings_are_counted kind [] tt;
      the_last_batch_can_be_reversed = tt;
      pages_are_the_tree_of_the_book = record { entries = []; valid = done.1; spells_the_book = refl; at_most_6_levels = at_most_six kind (pages_of after) [] done.1 bound };
      entries_are_those_of_the_batches = refl;
    })

still_open : (answer : Answer Unit) (b : Bool) → b ≡ true → on_accepted answer true b ≡ b
still_open (Accepted tt) b e = sym e
still_open (Refused number place) b e = refl

pub carried_on : StandingIsCarriedOn
carried_on kind batches before after (Making answer) standing step = remade kind batches before after answer standing step
carried_on kind batches before after (Opening marks answer marks_left) standing step = unmoved kind batches before after step.leaves_the_pages (step.opens_if_accepted ∙ still_open answer before.is_open standing.is_open) standing
carried_on kind batches before after (Merging bytes answer) standing step = merge_carries_on kind batches before after bytes answer standing step
carried_on kind batches before after (LookingUp key list answer list_after) standing step = unmoved kind batches before after step.leaves_the_pages step.leaves_the_openness standing
carried_on kind batches before after (Listing first second skip buffer answer buffer_after) standing step = unmoved kind batches before after step.leaves_the_pages step.leaves_the_openness standing
carried_on kind batches before after Settling standing step = unmoved kind batches before after step.leaves_the_pages step.leaves_the_openness standing
