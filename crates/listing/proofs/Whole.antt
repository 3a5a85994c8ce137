-- A listing as a whole: the rows of the tree are those of the book. Assumes nothing.
use Rattle.std.proofs.Common.{◌≡◌, ℕ, ◌-◌, ◌/◌, ◌≤◌, min, Bool, true, false, cond, List, [], ◌∷◌, ◌++◌, map, length, None, Ok, Err, filter, Result, sym, refl, ap, ◌∙◌, subst, arith, MatchResult}
use Rattle.std.specs.List.{flat_map, AllByRecursion}
use Rattle.std.proofs.ByRecursion.{All-weaker}
use Rattle.std.proofs.lemmas.Result.{MatchResult-at_ok, MatchResult-at_err}
use Rattle.refusals.specs.declared.Refusal.{Refusal}
use Rattle.refusals.specs.Refusals.{Answer, Accepted, on_accepted}
use Rattle.page_store.specs.Meanings.{Meaning, count_of}
use Rattle.keys.specs.Kinds.{Kind, Field, below}
use Rattle.nodes.specs.Meanings.{leaf_of}
use Rattle.book.specs.Books.{Held, Book, Sorted}
use Rattle.book.specs.Entries.{Entries, postings_in, book_of}
use Rattle.book.specs.Looking.{Listed, rows_under, within, listed, rows_shown, bounds_answer, buffer_with, buffer_after_list}
use Rattle.book.proofs.Looking.{LawfulRow, lawful_listed, listings_fill, listings_show}
use Rattle.tree.specs.Trees.{EntryAt, Leaf, entries_of, held}
use Rattle.tree.specs.Valid.{Valid}
use Rattle.std.proofs.lemmas.List.Concat.{flat_map-append}
use Rattle.calls.specs.declared.answers.RowsListed.{RowsListed}
use Rattle.calls.specs.Listings.{rows_listed}
use Rattle.calls.proofs.Spelled.{spells_a_book, postings_held}
use Rattle.searching.specs.declared.arrival.Descent.{Descent}
use Rattle.searching.specs.Descents.{Arrives}
use Rattle.listing.specs.Walks.{rows_at, listed_at, RowsPut, LeavesWalked}
use Rattle.listing.specs.Between.{ListsBetween}
use Rattle.listing.proofs.Filling.{Whole, length_filled, filled_is}
use Rattle.listing.proofs.Putting.{put_none}
use Rattle.listing.proofs.InRange.{listed_append, below_none}
use Rattle.listing.proofs.LeavesSteps.{entries_in}
use Rattle.listing.proofs.TreeLeaves.{leaves_from}

-- the rows of the book are those of the entries
listed_is : (kind : Kind) (first second : Field) (entries : List EntryAt) → listed kind (book_of (map held entries)) first second ≡ listed_at kind first second entries
listed_is kind first second [] = refl
listed_is kind first second (entry ∷ entries) = go (within kind first second entry.key) (listed_is kind first second entries)
  where
    kept : List (Held (List ℕ))
    kept = filter (λ (h : Held (List ℕ)). within kind first second h.key) (book_of (map held entries))

    go : (b : Bool) → flat_map rows_under kept ≡ listed_at kind first second entries
        → flat_map rows_under (cond b (record { key = entry.key; value = postings_in (held entry).value } ∷ kept) kept) ≡ cond b (rows_at entry) [] ++ listed_at kind first second entries
    go true ih = ap (λ (ps : List ℕ). rows_under (record { key = entry.key; value = ps }) ++ flat_map rows_under kept) (postings_held entry) ∙ ap (λ (rows : List Listed). rows_at entry ++ rows) ih
    go false ih = ih

-- what an answer says and a buffer holds, once the rows of the book are put
module _ (kind : Kind) (book : Book) (sorted : Sorted kind book) (first second : Field) (lf : kind.lawful first ≡ true) (ls : kind.lawful second ≡ true) (skip : ℕ) (buffer : List ℕ) where
  bounds_accepted : bounds_answer kind first second ≡ Accepted tt
  bounds_accepted = rw (lf, ls)

  rows_whole : AllByRecursion Whole (listed kind book first second)
  rows_whole =
      All-weaker (LawfulRow kind) Whole (λ row lawful. kind.fields_have_24_bytes row.key lawful) (listed kind book first second)
      (lawful_listed kind None book (λ (h : Held (List ℕ)). within kind first second h.key) sorted)

  same_numbers : (a b d e : ℕ) → a ≡ b → d ≡ e → ◌≡◌ {A = RowsListed} (record { total = a; written = d }) (record { total = b; written = e })
  same_numbers a b d e p q = λ i. record { total = p i; written = q i }

  pub answered : (total count : ℕ) (after : List ℕ) → RowsPut (listed kind book first second) 0 skip buffer total after → count ≡ min (total - skip) (length after / 32)
      → (◌≡◌ {A = Answer RowsListed} (Accepted (record { total = total; written = count })) (Accepted (rows_listed kind book first second skip (length buffer)))) × (after ≡ buffer_after_list kind book first second skip buffer)
  answered total count after put is =
      let all = listed kind book first second in
      let sum : total ≡ length (listed kind book first second) = put.counts_them ∙ omega arith in
      let room : length after ≡ length buffer = ap length put.fills_the_buffer ∙ length_filled skip 0 all buffer in
      let number : count ≡ length (rows_shown kind book first second skip (length buffer)) =
      is ∙ ap (λ (n : ℕ). min (total - skip) (n / 32)) room ∙ ap (λ (n : ℕ). min (n - skip) (length buffer / 32)) sum ∙ sym (listings_fill kind book first second skip buffer sorted).writes_what_fits in (
        ap (λ (l : RowsListed). Accepted l) (same_numbers total (length all) count (length (rows_shown kind book first second skip (length buffer))) sum number),
        put.fills_the_buffer ∙ filled_is skip all buffer rows_whole
            ∙ ap (λ (a : Answer Unit). on_accepted a (buffer_with (rows_shown kind book first second skip (length buffer)) buffer) buffer) (sym bounds_accepted),
      )

  -- from a first key above the second on nothing is listed
  pub backwards_none : below kind second first ≡ true → RowsPut (listed kind book first second) 0 skip buffer 0 buffer
  backwards_none over = subst (λ (rows : List Listed). RowsPut rows 0 skip buffer 0 buffer) (sym ((listings_show kind book first second sorted lf ls).nothing_backwards over)) (put_none 0 skip buffer)

module _ (kind : Kind) (m : Meaning) (first second : Field) (lf : kind.lawful first ≡ true) (ls : kind.lawful second ≡ true) (skip : ℕ) (buffer : List ℕ) where
  sorted_book : (entries : Entries) → Valid kind m.pages entries → Sorted kind (book_of entries)
  sorted_book entries valid = (spells_a_book kind m.pages entries valid).keys_rise

  pub lists_nothing : below kind second first ≡ true → ListsBetween kind m.pages first second skip buffer (Accepted (record { total = 0; written = 0 })) buffer
  lists_nothing over =
      record {
        lists = λ entries valid.
            let sorted = sorted_book entries valid in
            answered kind (book_of entries) sorted first second lf ls skip buffer 0 0 buffer (backwards_none kind (book_of entries) sorted first second lf ls skip buffer over) (omega arith);
      }

  module _ (few : count_of m ≤ 65536) {way : Result Descent Refusal} (arrives : (entries : Entries) (valid : Valid kind m.pages entries) → kind.lawful first ≡ true → MatchResult way (Arrives valid first) (λ _. ⊥)) where
    -- a way down that is refused is none of a valid tree
    pub refused_on_the_way : {refusal : Refusal} → way ≡ Err refusal → {answer : Answer RowsListed} {after : List ℕ} → ListsBetween kind m.pages first second skip buffer answer after
    refused_on_the_way {refusal = refusal} e =
        record { lists = λ entries valid. absurd (MatchResult-at_err (Arrives valid first) (λ _. ⊥) refusal e (arrives entries valid lf)) }

    module _ {descent : Descent} (ok : way ≡ Ok descent) {r : Result ℕ Refusal} {after : List ℕ} (walked : LeavesWalked kind m.pages (leaf_of descent.leaf) first second skip buffer r after) where
      module _ (entries : Entries) (valid : Valid kind m.pages entries) where
        there : Arrives valid first descent
        there = MatchResult-at_ok (Arrives valid first) (λ _. ⊥) descent ok (arrives entries valid lf)

        -- left of the leaf of the first key nothing is listed
        rows_from_there : listed_at kind first second (entries_in (there.leaf ∷ there.right)) ≡ listed kind (book_of entries) first second
        rows_from_there =
            let all = there.leaf ∷ there.right in
            ap (λ (rows : List Listed). rows ++ listed_at kind first second (entries_in (there.leaf ∷ there.right))) (sym (below_none kind first second (entries_in there.left) there.left_lies_below))
            ∙ sym (listed_append kind first second (entries_in there.left) (entries_in all))
            ∙ ap (listed_at kind first second) (sym (flat_map-append (λ (leaf : Leaf). leaf.entries) there.left all) ∙ ap entries_in (sym there.is_among_the_leaves))
            ∙ sym (listed_is kind first second (entries_of valid.levels valid.tree))
            ∙ ap (λ (es : Entries). listed kind (book_of es) first second) valid.holds_the_entries

        walks : MatchResult r (λ total. RowsPut (listed_at kind first second (entries_in (there.leaf ∷ there.right))) 0 skip buffer total after) (λ _. ⊥)
        walks = walked.puts_their_rows there.leaf there.right there.was_read (leaves_from kind m.pages entries valid few there.left (there.leaf ∷ there.right) there.is_among_the_leaves)

      pub refused_on_the_leaves : {refusal : Refusal} → r ≡ Err refusal → {answer : Answer RowsListed} → ListsBetween kind m.pages first second skip buffer answer after
      refused_on_the_leaves {refusal = refusal} e =
          record {
            lists = λ entries valid.
                absurd (MatchResult-at_err (λ total. RowsPut (listed_at kind first second (entries_in ((there entries valid).leaf ∷ (there entries valid).right))) 0 skip buffer total after) (λ _. ⊥) refusal e (walks entries valid));
          }

      pub lists_the_leaves : {total count : ℕ} → r ≡ Ok total → count ≡ min (total - skip) (length after / 32) → ListsBetween kind m.pages first second skip buffer (Accepted (record { total = total; written = count })) after
      lists_the_leaves {total = total} {count = count} e is =
          record {
            lists = λ entries valid.
                answered kind (book_of entries) (sorted_book entries valid) first second lf ls skip buffer total count after
                (subst (λ (rows : List Listed). RowsPut rows 0 skip buffer total after) (rows_from_there entries valid)
                (MatchResult-at_ok (λ total. RowsPut (listed_at kind first second (entries_in ((there entries valid).leaf ∷ (there entries valid).right))) 0 skip buffer total after) (λ _. ⊥) total e (walks entries valid)))
                is;
          }
