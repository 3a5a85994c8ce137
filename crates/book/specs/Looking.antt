-- What lookups and listings show of a book.
use Rattle.std.specs.Prelude.{ℕ, ◌*◌, ◌/◌, Bool, cond, not, ◌&&◌, List, ◌++◌, map, length, take, drop, filter}
use Rattle.std.specs.List.{flat_map}
use Rattle.refusals.specs.Refusals.{Answer, Accepted, wants, and_then, on_accepted}
use Rattle.numbers.specs.BigEndian.{bytes_of}
use Rattle.keys.specs.Kinds.{Kind, Field, below}
use Rattle.book.specs.Books.{Held, Book, postings_of}

-- a lookup's numbers: how many postings the key has, and how many were written
pub record Looked : Type 0 where
  pub total : ℕ
  pub written : ℕ

-- as many postings of the key as a list of so many places holds
abbrev pub shown : Kind → Book → Field → (places : ℕ) → List ℕ
shown kind book key places = take places (postings_of kind book key)

abbrev pub lookup_answer : Kind → Book → Field → (places : ℕ) → Answer Looked
lookup_answer kind book key places =
    and_then (wants (kind.lawful key) 4 0) (Accepted (record { total = length (postings_of kind book key); written = length (shown kind book key places) }))

-- the list after it: its first places are written, the others are as before
abbrev pub list_after_lookup : Kind → Book → Field → List ℕ → List ℕ
list_after_lookup kind book key list =
    cond (kind.lawful key) (shown kind book key (length list) ++ drop (length (shown kind book key (length list))) list) list

-- a row of a listing
pub record Listed : Type 0 where
  pub key : Field
  pub posting : ℕ

abbrev pub rows_under : Held (List ℕ) → List Listed
rows_under held = map (λ (n : ℕ). record { key = held.key; posting = n }) held.value

-- from the first key to the second, both included
abbrev pub within : Kind → (first second : Field) → Field → Bool
within kind first second key = not (below kind key first) && not (below kind second key)

-- all rows: keys rising, the postings of each as in the book
abbrev pub listed : Kind → Book → (first second : Field) → List Listed
listed kind book first second = flat_map rows_under (filter (λ (held : Held (List ℕ)). within kind first second held.key) book)

-- 32 bytes for a row: key field and posting
abbrev pub listed_bytes : Listed → List ℕ
listed_bytes row = row.key ++ bytes_of 8 row.posting

-- the rows that are written: some are skipped, and then as many whole rows as the buffer's bytes hold
abbrev pub rows_shown : Kind → Book → (first second : Field) → (skip room : ℕ) → List Listed
rows_shown kind book first second skip room = take (room / 32) (drop skip (listed kind book first second))

-- a listing's numbers: how many rows there are before skipping, and how many were written
pub record Listing : Type 0 where
  pub total : ℕ
  pub rows : ℕ

-- the first of the two keys that is unlawful is refused
abbrev pub bounds_answer : Kind → (first second : Field) → Answer Unit
bounds_answer kind first second = and_then (wants (kind.lawful first) 4 0) (wants (kind.lawful second) 4 1)

abbrev pub list_answer : Kind → Book → (first second : Field) → (skip room : ℕ) → Answer Listing
list_answer kind book first second skip room =
    and_then (bounds_answer kind first second) (Accepted (record { total = length (listed kind book first second); rows = length (rows_shown kind book first second skip room) }))

-- the buffer after it: the rows in front, the other bytes as before
abbrev pub buffer_with : List Listed → List ℕ → List ℕ
buffer_with rows buffer = flat_map listed_bytes rows ++ drop (32 * length rows) buffer

abbrev pub buffer_after_list : Kind → Book → (first second : Field) → (skip : ℕ) → List ℕ → List ℕ
buffer_after_list kind book first second skip buffer =
    on_accepted (bounds_answer kind first second) (buffer_with (rows_shown kind book first second skip (length buffer)) buffer) buffer
