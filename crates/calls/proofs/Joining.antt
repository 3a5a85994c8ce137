-- The laws that join the calls. Assumes nothing.
use Rattle.std.proofs.Common.{◌≡◌, ℕ, ◌≤◌, Bool, true, cond, List, [], ◌∷◌, ◌++◌, length, take, drop, sym, refl, ap, ◌∙◌, subst, ⊎_elim, arith}
use Rattle.std.proofs.lemmas.List.{take_all, take_at}
use Rattle.std.proofs.lemmas.Bool.{cases_lt}
use Rattle.refusals.specs.Refusals.{Answer, Accepted, Refused}
use Rattle.refusals.proofs.Answering.{never_both}
use Rattle.page_store.specs.Meanings.{Meaning, count_of}
use Rattle.keys.specs.Kinds.{Kind}
use Rattle.book.specs.Books.{Book, postings_of}
use Rattle.book.specs.Entries.{book_of}
use Rattle.book.proofs.Merges.{postings_are_counted}
use Rattle.tree.specs.Valid.{Valid}
use Rattle.tree.proofs.Highest.{at_most_six}
use Rattle.calls.specs.States.{State, state_of, pages_of, height_of}
use Rattle.calls.specs.Lookups.{looked_up}
use Rattle.calls.specs.Merges.{pageless_answer, Judges, Acceptable, Takes, Merges}
use Rattle.calls.specs.Standing.{AcceptedBatches, Standing, book_of_batches}
use Rattle.calls.specs.Runs.{Event, Making, Opening, Merging, LookingUp, Listing, Settling, Step, Shows, accepted_after}
use Rattle.calls.specs.CallLaws.{JudgedThenTakenIsMerged, StandingLeadsThroughAnyCalls, AMadeIndexStands, OpeningFindsWhatStood, LookupsShowTheCounted}
use Rattle.calls.proofs.Carrying.{unmoved, carried_on}

-- what is not refused is accepted
not_refused : (answer : Answer Unit) → ((number place : ℕ) → answer ≡ Refused number place → ⊥) → answer ≡ Accepted tt
not_refused (Accepted tt) never = refl
not_refused (Refused number place) never = absurd (never number place refl)

acceptable_before : (kind : Kind) (before after : State) (batch : List ℕ) → Judges kind before batch (Accepted tt) after → Acceptable kind before batch
acceptable_before kind before after batch judges = record {
  without_a_page = not_refused (pageless_answer kind before.is_open batch) (λ number place e. never_both tt number place (judges.refuses_without_a_page number place e));
  by_the_entries = λ entries valid. sym (judges.judges_by_the_entries entries valid);
}

acceptable_resettled : (kind : Kind) (meaning : Meaning) (is_open settled settled' : Bool) (batch : List ℕ) → Acceptable kind (state_of meaning is_open settled) batch → Acceptable kind (state_of meaning is_open settled') batch
acceptable_resettled kind meaning is_open settled settled' batch acceptable = record { without_a_page = acceptable.without_a_page; by_the_entries = acceptable.by_the_entries }

pub acceptable : (kind : Kind) (before after : State) (batch : List ℕ) → Judges kind before batch (Accepted tt) after → Acceptable kind after batch
acceptable kind before after batch judges =
    acceptable_resettled kind after.meaning after.is_open before.settled after.settled batch
    (subst (λ (state : State). Acceptable kind state batch) (λ i. record { meaning = sym judges.leaves_the_pages i; is_open = sym judges.leaves_the_openness i; settled = before.settled })
    (acceptable_before kind before after batch judges))

pub refused_merge : (kind : Kind) (before after : State) (batch : List ℕ) (number place : ℕ) → Judges kind before batch (Refused number place) after → Merges kind before batch (Refused number place) after
refused_merge kind before after batch number place judges = record {
  keeps_the_count = ap count_of judges.leaves_the_pages;
  leaves_the_openness = judges.leaves_the_openness;
  refused_changes_nothing = λ number' place' e. judges.leaves_the_pages;
  no_rows_change_nothing = λ e. judges.leaves_the_pages;
  refuses_without_a_page = λ number' place' e. (again number' place' (judges.refuses_without_a_page number' place' e), judges.leaves_the_pages);
  refused_leaves_the_pages = λ entries valid number' place' e. (again number' place' (judges.judges_by_the_entries entries valid ∙ e), judges.leaves_the_pages);
  accepted_carries_out_every_line = λ entries valid e. absurd (never_both tt number place (sym (judges.judges_by_the_entries entries valid ∙ e)));
}
  where
    again : (number' place' : ℕ) → ◌≡◌ {A = Answer Unit} (Refused number place) (Refused number' place') → ◌≡◌ {A = Answer ℕ} (Refused number place) (Refused number' place')
    again number' place' e = cc

pub taken_merge : (kind : Kind) (before between after : State) (batch : List ℕ) (keys : ℕ) → Judges kind before batch (Accepted tt) between → Takes kind between batch keys after → Merges kind before batch (Accepted keys) after
taken_merge kind before between after batch keys judges takes = record {
  refused_changes_nothing = λ number place e. absurd (never_both keys number place e);
  no_rows_change_nothing = λ e. takes.no_rows_change_nothing e ∙ judges.leaves_the_pages;
  keeps_the_count = takes.keeps_the_count ∙ ap count_of judges.leaves_the_pages;
  leaves_the_openness = takes.leaves_the_openness ∙ judges.leaves_the_openness;
  refuses_without_a_page = λ number place e. absurd (never_both tt number place (judges.refuses_without_a_page number place e));
  refused_leaves_the_pages = λ entries valid number place e. absurd (never_both tt number place (judges.judges_by_the_entries entries valid ∙ e));
  accepted_carries_out_every_line = λ entries valid e. let done = takes.carries_out_every_line entries (subst (λ (meaning : Meaning). Valid kind meaning.pages entries) (sym judges.leaves_the_pages) valid) in (ap Accepted done.0, done.1);
}

pub judged_then_taken : JudgedThenTakenIsMerged
judged_then_taken = record {
  refused_is_merged_with_that_refusal = λ kind before after batch number place judges. refused_merge kind before after batch number place judges;
  accepted_may_be_taken = acceptable;
  accepted_then_taken_is_merged = taken_merge;
}

pub made_stands : AMadeIndexStands
made_stands kind before after few makes =
    let tree = makes.makes_an_empty_tree in
    let eight : 8 ≤ count_of before.meaning =
    ⊎_elim (λ less. absurd (never_both tt 11 (count_of before.meaning) (tree.refuses_fewer_than_8_pages less).0)) (λ enough. enough) (cases_lt (count_of before.meaning) 8) in
    let valid = (tree.writes_a_tree_of_no_entries eight).1 in
    let bound : count_of after.meaning ≤ 65536 = let kept = tree.keeps_the_count in omega arith in
    record {
      is_open = makes.opens_if_accepted;
      at_most_65536_pages = bound;
      batches_have_opened = tt;
      batches_were_accepted_in_turn = tt;
      accepted_lines_are_counted = postings_are_counted kind [] tt;
      the_last_batch_can_be_reversed = tt;
      pages_are_the_tree_of_the_book = record { entries = []; valid = valid; spells_the_book = refl; at_most_6_levels = at_most_six kind (pages_of after) [] valid bound };
      entries_are_those_of_the_batches = refl;
    }

pub opening_finds : OpeningFindsWhatStood
opening_finds kind batches earlier before after marks marks_left standing same opens =
    unmoved kind batches earlier after (opens.leaves_the_pages ∙ same) (opens.opens_if_accepted ∙ sym standing.is_open) standing

-- a list with room for all of them begins with them
written : (lawful : Bool) (numbers list : List ℕ) → lawful ≡ true → length numbers ≤ length list
    → take (length numbers) (cond lawful (take (length list) numbers ++ drop (length (take (length list) numbers)) list) list) ≡ numbers
written lawful numbers list l room = rw (l, take_all (length list) numbers room) (take_at numbers (drop (length numbers) list) (length numbers) refl)

pub lookups_show : LookupsShowTheCounted
lookups_show kind batches before after key list list_after answer standing lawful looks =
    let tree = standing.pages_are_the_tree_of_the_book in
    let entries = tree.entries in
    let shown = (looks.looks_up_if_open standing.is_open).shows_what_the_tree_holds lawful entries tree.valid in
    let same : postings_of kind (book_of entries) key ≡ postings_of kind (book_of_batches kind batches) key = ap (λ (book : Book). postings_of kind book key) tree.spells_the_book in (
      looked_up kind (height_of tree.valid) entries key (length list),
      shown.0,
      record {
        numbers = postings_of kind (book_of_batches kind batches) key;
        each_posted_once_more = λ n. (standing.accepted_lines_are_counted key lawful n).posted_is_cancelled_and_held;
        none_twice = λ n. (standing.accepted_lines_are_counted key lawful n).held_at_most_once;
        total_is_how_many = ap length same;
        list_holds_them = λ room.
            ap (take (length (postings_of kind (book_of entries) key))) shown.1
            ∙ written (kind.lawful key) (postings_of kind (book_of entries) key) list lawful (subst (λ (numbers : List ℕ). length numbers ≤ length list) (sym same) room)
            ∙ same;
      },
    )

shows : (kind : Kind) (batches : AcceptedBatches) (before after : State) (event : Event) → Standing kind batches before → Step kind before event after → Shows kind batches event
shows kind batches before after (Making answer) standing step = tt
shows kind batches before after (Opening marks answer marks_left) standing step = tt
shows kind batches before after (Merging bytes answer) standing step = tt
shows kind batches before after (LookingUp key list answer list_after) standing step = λ lawful. lookups_show kind batches before after key list list_after answer standing lawful step
shows kind batches before after (Listing first second skip buffer answer buffer_after) standing step = tt
shows kind batches before after Settling standing step = tt

pub leads_through : StandingLeadsThroughAnyCalls
leads_through kind batches state [] states standing steps = (steps, standing)
leads_through kind batches state (event ∷ events) [] standing steps = steps
leads_through kind batches state (event ∷ events) (next ∷ states) standing steps =
    (standing, steps.0, shows kind batches state next event standing steps.0, leads_through kind (accepted_after event batches) next events states (carried_on kind batches state next event standing steps.0) steps.1)
