-- Lookup: the postings of a key, and how many pages were read to find them.
use Rattle.std.specs.Prelude.{◌≡◌, ℕ, ◌+◌, true, false, List, length}
use Rattle.refusals.specs.Refusals.{Answer, Accepted, Refused}
use Rattle.keys.specs.Kinds.{Kind, Field}
use Rattle.book.specs.Books.{value_at, postings_of}
use Rattle.book.specs.Entries.{Entry, Entries, paged, book_of}
use Rattle.book.specs.Looking.{shown, list_after_lookup}
use Rattle.tree.specs.Valid.{Pages, Valid}
use Rattle.calls.specs.declared.answers.Looked.{Looked}
use Rattle.calls.specs.States.{State, pages_of, height_of, ShowsDamage}

-- the entry of a key, without postings where there is none
abbrev pub entry_at : Kind → Entries → Field → Entry
entry_at kind entries key = value_at kind paged key entries

-- total and number written are those of the book that the entries spell; reads are the height and the records of the key's entry
abbrev pub looked_up : Kind → (height : ℕ) → Entries → Field → (places : ℕ) → Looked
looked_up kind height entries key places =
    record {
      total = length (postings_of kind (book_of entries) key);
      written = length (shown kind (book_of entries) key places);
      reads = height + length (entry_at kind entries key).records;
    }

-- what a lookup on an open index answers, and what it leaves in the list
pub record LooksUp (kind : Kind) (pages : Pages) (key : Field) (list : List ℕ) (answer : Answer Looked) (list_after : List ℕ) : Type 0 where
  pub refuses_an_unlawful_key : kind.lawful key ≡ false → (answer ≡ Refused 4 0) × (list_after ≡ list)
  pub shows_what_the_tree_holds : kind.lawful key ≡ true → (entries : Entries) (valid : Valid kind pages entries)
      → (answer ≡ Accepted (looked_up kind (height_of valid) entries key (length list))) × (list_after ≡ list_after_lookup kind (book_of entries) key list)
  pub refuses_a_lawful_key_only_for_damage : kind.lawful key ≡ true → (number place : ℕ) → answer ≡ Refused number place → ShowsDamage number

-- NOT OPEN comes first; the pages and the openness stay whatever the pages are
pub record Looks (kind : Kind) (before : State) (key : Field) (list : List ℕ) (answer : Answer Looked) (after : State) (list_after : List ℕ) : Type 0 where
  pub leaves_the_pages : after.meaning ≡ before.meaning
  pub leaves_the_openness : after.is_open ≡ before.is_open
  pub refuses_if_not_open : before.is_open ≡ false → (answer ≡ Refused 1 0) × (list_after ≡ list)
  pub looks_up_if_open : before.is_open ≡ true → LooksUp kind (pages_of before) key list answer list_after
