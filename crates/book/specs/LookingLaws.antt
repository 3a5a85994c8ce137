-- The laws of lookups and listings.
use Rattle.std.specs.Prelude.{◌≡◌, ℕ, ◌-◌, ◌/◌, min, true, false, cond, List, [], ◌∷◌, map, length, filter}
use Rattle.std.specs.Ordering.{is_eq}
use Rattle.std.specs.List.{AllByRecursion}
use Rattle.keys.specs.Kinds.{Kind, Field, below}
use Rattle.book.specs.Books.{Book, postings_of, Sorted}
use Rattle.book.specs.Looking.{shown, list_after_lookup, Listed, within, listed, rows_shown, buffer_after_list}

-- A lookup writes the lesser of what the key has and what the list holds, and the list stays as long as it was.
pub record LookupFills (kind : Kind) (book : Book) (key : Field) (list : List ℕ) : Type 0 where
  pub writes_what_fits : length (shown kind book key (length list)) ≡ min (length (postings_of kind book key)) (length list)
  pub keeps_the_length : length (list_after_lookup kind book key list) ≡ length list

abbrev pub LookupsFillTheList : Type 0
LookupsFillTheList = (kind : Kind) (book : Book) (key : Field) (list : List ℕ) → LookupFills kind book key list

-- A listing writes the lesser of the rows that are left after skipping and of the whole rows that fit, and the buffer stays as long as it was.
pub record ListingFills (kind : Kind) (book : Book) (first second : Field) (skip : ℕ) (buffer : List ℕ) : Type 0 where
  pub writes_what_fits : length (rows_shown kind book first second skip (length buffer)) ≡ min (length (listed kind book first second) - skip) (length buffer / 32)
  pub keeps_the_length : length (buffer_after_list kind book first second skip buffer) ≡ length buffer

abbrev pub ListingsFillTheBuffer : Type 0
ListingsFillTheBuffer = (kind : Kind) (book : Book) (first second : Field) (skip : ℕ) (buffer : List ℕ) → Sorted kind book → ListingFills kind book first second skip buffer

-- the postings of the rows that have a key
abbrev pub numbers_under : Kind → Field → List Listed → List ℕ
numbers_under kind key rows = map (λ (row : Listed). row.posting) (filter (λ (row : Listed). is_eq (kind.order key row.key)) rows)

-- no row's key lies below that of a row before it
abbrev pub InKeyOrder : Kind → List Listed → Type 0
InKeyOrder kind [] = Unit {0}
InKeyOrder kind (row ∷ rows) = AllByRecursion (λ (later : Listed). below kind later.key row.key ≡ false) rows × InKeyOrder kind rows

-- A listing has, in key order, exactly the postings of each key from the first to the second, as in the book.
pub record ListingShows (kind : Kind) (book : Book) (first second : Field) : Type 0 where
  pub each_key_as_in_the_book : (key : Field) → kind.lawful key ≡ true → numbers_under kind key (listed kind book first second) ≡ cond (within kind first second key) (postings_of kind book key) []
  pub in_key_order : InKeyOrder kind (listed kind book first second)
  pub nothing_backwards : below kind second first ≡ true → listed kind book first second ≡ []

abbrev pub ListingsShowTheBook : Type 0
ListingsShowTheBook = (kind : Kind) (book : Book) (first second : Field) → Sorted kind book → kind.lawful first ≡ true → kind.lawful second ≡ true → ListingShows kind book first second
