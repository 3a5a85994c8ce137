-- Rows put in several goes, and rows of which none is shown. Assumes nothing.
use Rattle.std.proofs.Common.{◌≡◌, ℕ, ◌+◌, ◌-◌, ◌/◌, max, true, false, ltb, leb, List, [], ◌++◌, length, sym, refl, ap, ◌∙◌, ⊎_elim, arith}
use Rattle.std.specs.List.{AllByRecursion}
use Rattle.std.proofs.lemmas.List.{length-append, length-map, map-append}
use Rattle.std.proofs.lemmas.Bool.{leb-true, leb-false, ltb-false, and_parts, and_cases}
use Rattle.keys.specs.Kinds.{Field}
use Rattle.book.specs.Looking.{Listed}
use Rattle.listing.specs.Filling.{rows_of, is_shown, is_past, is_any_shown, filled}
use Rattle.listing.specs.Walks.{RowsPut}
use Rattle.listing.proofs.Filling.{Whole, filled_append, filled_outside}

pub rows_append : (key : Field) (a b : List ℕ) → rows_of key (a ++ b) ≡ rows_of key a ++ rows_of key b
rows_append key a b = map-append (λ (n : ℕ). record { key = key; posting = n }) a b

pub length_rows : (key : Field) (postings : List ℕ) → length (rows_of key postings) ≡ length postings
length_rows key postings = length-map postings (λ (n : ℕ). record { key = key; posting = n })

pub put_none : (at skip : ℕ) (buffer : List ℕ) → RowsPut [] at skip buffer at buffer
put_none at skip buffer = record { counts_them = omega arith; fills_the_buffer = refl }

-- rows, and others behind them
pub put_on : (a b : List Listed) (at skip : ℕ) (buffer : List ℕ) (mid : ℕ) (between : List ℕ) (next : ℕ) (after : List ℕ) → RowsPut a at skip buffer mid between → RowsPut b mid skip between next after → RowsPut (a ++ b) at skip buffer next after
put_on a b at skip buffer mid between next after one two =
    let first = one.counts_them in
    let second = two.counts_them in
    let sum = length-append a b in
    record {
      counts_them = omega arith;
      fills_the_buffer =
          two.fills_the_buffer
          ∙ ap (λ (xs : List ℕ). filled skip mid b xs) one.fills_the_buffer
          ∙ ap (λ (n : ℕ). filled skip n b (filled skip at a buffer)) first
          ∙ sym (filled_append skip at a b buffer);
    }

-- past the rows that are shown, nothing changes
pub past_leaves : (skip at : ℕ) (rows : List Listed) (buffer : List ℕ) → AllByRecursion Whole rows → is_past skip (length buffer) at ≡ true → filled skip at rows buffer ≡ buffer
past_leaves skip at rows buffer whole past =
    let parts = and_parts (leb skip at) (leb (length buffer / 32) (at - skip)) past in
    let from = leb-true skip at parts.0 in
    let out = leb-true (length buffer / 32) (at - skip) parts.1 in
    filled_outside skip at rows buffer whole (λ k low high shown. omega arith)

-- nor where none of so many rows is shown
pub none_leaves : (skip from to : ℕ) (rows : List Listed) (buffer : List ℕ) → AllByRecursion Whole rows → to ≡ from + length rows → is_any_shown skip (length buffer) from to ≡ false → filled skip from rows buffer ≡ buffer
none_leaves skip from to rows buffer whole count none =
    filled_outside skip from rows buffer whole (λ k low high shown.
    ⊎_elim
    (λ h. absurd (let none = ltb-false (max from skip) to h in omega arith))
    (λ h. ⊎_elim (λ g. absurd (let never = leb-false skip (max from skip) g in omega arith)) (λ g. let out = ltb-false (max from skip - skip) (length buffer / 32) g in omega arith) (and_cases (leb skip (max from skip)) (ltb (max from skip - skip) (length buffer / 32)) h))
    (and_cases (ltb (max from skip) to) (is_shown skip (length buffer) (max from skip)) none))
