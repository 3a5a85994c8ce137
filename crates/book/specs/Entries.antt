-- The entry of a key as pages hold it: up to three inline postings, the newest, then a chain of records.
use Rattle.std.specs.Prelude.{ℕ, ◌≤◌, Bool, true, false, cond, ◌&&◌, List, [], ◌∷◌, ◌++◌, map, length, nat_le, nat_lt}
use Rattle.std.specs.List.{flat_map, AllByRecursion}
use Rattle.book.specs.Books.{Held, Keeping, Book, has, without, no_postings}

pub record Entry : Type 0 where
  pub inline : List ℕ
  pub records : List (List ℕ)

-- all postings of an entry, the newest first
abbrev pub postings_in : Entry → List ℕ
postings_in entry = entry.inline ++ flat_map (λ (record' : List ℕ). record') entry.records

abbrev pub no_records : List (List ℕ) → Bool
no_records [] = true
no_records (r ∷ rs) = false

abbrev pub is_empty : Entry → Bool
is_empty entry = no_postings entry.inline && no_records entry.records

-- postings moved out of the inline places: to the front of the head record if that holds at most 57, else to a new head record
abbrev pub moved : List ℕ → List (List ℕ) → List (List ℕ)
moved three [] = three ∷ []
moved three (head ∷ rest) = cond (nat_le (length head) 57) ((three ++ head) ∷ rest) (three ∷ head ∷ rest)

-- a posting goes in front of the inline ones; a fourth first moves the three
abbrev pub posted_in : ℕ → Entry → Entry
posted_in n entry =
    cond (nat_lt (length entry.inline) 3) (record { inline = n ∷ entry.inline; records = entry.records }) (record { inline = n ∷ []; records = moved entry.inline entry.records })

-- a record in front of others; an emptied one is given back
abbrev pub kept : List ℕ → List (List ℕ) → List (List ℕ)
kept [] rest = rest
kept (p ∷ ps) rest = (p ∷ ps) ∷ rest

-- a number taken out of the record that has it
abbrev pub without_in : ℕ → List (List ℕ) → List (List ℕ)
without_in n [] = []
without_in n (r ∷ rs) = cond (has n r) (kept (without n r) rs) (r ∷ without_in n rs)

-- a cancelled posting leaves its inline place or its record, and its neighbours close up
abbrev pub cancelled_in : ℕ → Entry → Entry
cancelled_in n entry =
    cond (has n entry.inline) (record { inline = without n entry.inline; records = entry.records }) (record { inline = entry.inline; records = without_in n entry.records })

-- pages keep an entry under each key
abbrev pub paged : Keeping Entry
paged = record { none = record { inline = []; records = [] }; is_none = is_empty; posted = posted_in; cancelled = cancelled_in; postings = postings_in }

abbrev pub Entries : Type 0
Entries = List (Held Entry)

-- the book that entries spell
abbrev pub book_of : Entries → Book
book_of entries = map (λ (held : Held Entry). record { key = held.key; value = postings_in held.value }) entries

-- an entry within the sizes: at most three inline, each record of 1 to 60
pub record Sizes (entry : Entry) : Type 0 where
  pub at_most_3_inline : length entry.inline ≤ 3
  pub records_hold_1_to_60 : AllByRecursion (λ (r : List ℕ). (1 ≤ length r) × (length r ≤ 60)) entry.records

pub record EntryFits (entry : Entry) : Type 0 where
  pub sizes : Sizes entry
  pub at_least_one : 1 ≤ length (postings_in entry)

abbrev pub EntriesFit : Entries → Type 0
EntriesFit entries = AllByRecursion (λ (held : Held Entry). EntryFits held.value) entries
