-- Postings written into a list from a place on.
use Rattle.std.specs.Prelude.{◌≡◌, ℕ, suc, ◌+◌, List, [], ◌∷◌, length, slice_set}
use Rattle.std.specs.List.{flat_map}
use Rattle.tree.specs.Trees.{RecordAt}
use Rattle.lookups.specs.declared.pouring.ChainEnd.{ChainEnd}

-- each at the next place; what comes past the end of the list changes nothing
abbrev pub poured : (place : ℕ) → (postings list : List ℕ) → List ℕ
poured place [] list = list
poured place (p ∷ ps) list = poured (suc place) ps (slice_set list place p)

abbrev pub postings_in : List RecordAt → List ℕ
postings_in records = flat_map (λ (r : RecordAt). r.postings) records

-- a whole chain: each of its records counted once, and all of its postings written
pub record ChainPoured (place : ℕ) (records : List RecordAt) (list : List ℕ) (end : ChainEnd) (after : List ℕ) : Type 0 where
  pub counts_every_record : end.records ≡ length records
  pub ends_after_its_postings : end.place ≡ place + length (postings_in records)
  pub writes_its_postings : after ≡ poured place (postings_in records) list
