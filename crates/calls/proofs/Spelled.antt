-- What the entries of a valid tree are: sorted, within the sizes, and spelling a book. Assumes nothing.
use Rattle.std.proofs.Common.{◌≡◌, ℕ, ◌≤◌, List, [], ◌∷◌, ◌++◌, map, length, Some, None, Option, ap, subst}
use Rattle.std.proofs.lemmas.List.Folds.{flat_map-map}
use Rattle.std.specs.List.{AllByRecursion}
use Rattle.std.proofs.ByRecursion.{All-weaker, All-map}
use Rattle.keys.specs.Kinds.{Kind, Field}
use Rattle.book.specs.Books.{Held, SortedFrom, Sorted, Postings, IsBook}
use Rattle.book.specs.Entries.{Entry, Entries, postings_in, book_of, EntriesFit}
use Rattle.book.specs.Entries.{EntryFits as EntryIsWithinSizes}
use Rattle.tree.specs.Trees.{RecordAt, EntryAt, entries_of, held}
use Rattle.tree.proofs.Rising.{keys_rise}
use Rattle.tree.specs.Valid.{Pages, Rise, postings_at, EntryFits, Valid}

-- entries and book are sorted where the keys rise
module _ (kind : Kind) where
  sorted_held : (before : Option Field) (entries : List EntryAt) → Rise kind before (map (λ (entry : EntryAt). entry.key) entries) → SortedFrom kind before (map held entries)
  sorted_held before [] rise = tt
  sorted_held before (entry ∷ entries) rise = (rise.0, rise.1, sorted_held (Some entry.key) entries rise.2)

  sorted_book : (before : Option Field) (entries : Entries) → SortedFrom kind before entries → SortedFrom kind before (book_of entries)
  sorted_book before [] sorted = tt
  sorted_book before (entry ∷ entries) sorted = (sorted.0, sorted.1, sorted_book (Some entry.key) entries sorted.2)

-- an entry of a leaf has the postings of the entry without page numbers
pub postings_held : (entry : EntryAt) → postings_in (held entry).value ≡ postings_at entry
postings_held entry = ap (λ (l : List ℕ). entry.inline ++ l) (flat_map-map (λ (r : List ℕ). r) (λ (r : RecordAt). r.postings) entry.records)

abbrev HoldsPostings : Held Entry → Type 0
HoldsPostings entry = Postings (postings_in entry.value)

held_fits : (entry : EntryAt) → EntryFits entry → EntryIsWithinSizes (held entry).value
held_fits entry fits = record {
  sizes = record {
    at_most_3_inline = fits.at_most_3_inline;
    records_hold_1_to_60 = All-map (λ (r : List ℕ). (1 ≤ length r) × (length r ≤ 60)) (λ (r : RecordAt). r.postings) entry.records fits.records_hold_1_to_60;
  };
  at_least_one = rw (postings_held entry) fits.at_least_one_posting;
}

held_postings : (entry : EntryAt) → EntryFits entry → HoldsPostings (held entry)
held_postings entry fits =
    rw (postings_held entry) (record { at_least_one = fits.at_least_one_posting; none_twice = fits.no_number_twice; are_posting_numbers = fits.are_posting_numbers })

-- what a valid tree holds
module _ (kind : Kind) (pages : Pages) (entries : Entries) (valid : Valid kind pages entries) where
  all_held : (P : Held Entry → Type 0) → ((entry : EntryAt) → EntryFits entry → P (held entry)) → AllByRecursion P entries
  all_held P each =
      subst (λ (list : Entries). AllByRecursion P list) valid.holds_the_entries
      (All-map P held (entries_of valid.levels valid.tree) (All-weaker EntryFits (λ (entry : EntryAt). P (held entry)) each (entries_of valid.levels valid.tree) valid.entries_fit))

  pub entries_sorted : Sorted kind entries
  entries_sorted =
      subst (λ (list : Entries). Sorted kind list) valid.holds_the_entries
      (sorted_held kind None (entries_of valid.levels valid.tree) (keys_rise kind valid.levels valid.tree valid.keys_are_in_order))

  pub entries_fit : EntriesFit entries
  entries_fit = all_held (λ (entry : Held Entry). EntryIsWithinSizes entry.value) held_fits

  pub spells_a_book : IsBook kind (book_of entries)
  spells_a_book = record {
    keys_rise = sorted_book kind None entries entries_sorted;
    keys_hold_postings = All-map (λ (entry : Held (List ℕ)). Postings entry.value) (λ (entry : Held Entry). record { key = entry.key; value = postings_in entry.value }) entries (all_held HoldsPostings held_postings);
  }
