-- List: a row for each posting of the keys from one to another.
use Rattle.std.specs.Prelude.{◌≡◌, ℕ, true, false, List, length}
use Rattle.refusals.specs.Refusals.{Answer, Accepted, Refused}
use Rattle.keys.specs.Kinds.{Kind, Field}
use Rattle.book.specs.Books.{Book}
use Rattle.book.specs.Entries.{Entries, book_of}
use Rattle.book.specs.Looking.{bounds_answer, listed, rows_shown, buffer_after_list}
use Rattle.tree.specs.Valid.{Pages, Valid}
use Rattle.calls.specs.declared.answers.RowsListed.{RowsListed}
use Rattle.calls.specs.States.{State, pages_of}

-- total and number written are those of the book
abbrev pub rows_listed : Kind → Book → (first second : Field) → (skip room : ℕ) → RowsListed
rows_listed kind book first second skip room =
    record { total = length (listed kind book first second); written = length (rows_shown kind book first second skip room) }

-- what a listing on an open index answers, and what it leaves in the buffer
pub record ListsRows (kind : Kind) (pages : Pages) (first second : Field) (skip : ℕ) (buffer : List ℕ) (answer : Answer RowsListed) (buffer_after : List ℕ) : Type 0 where
  pub refuses_the_first_unlawful_key : (number place : ℕ) → bounds_answer kind first second ≡ Refused number place → (answer ≡ Refused number place) × (buffer_after ≡ buffer)
  pub lists_what_the_tree_holds : bounds_answer kind first second ≡ Accepted tt → (entries : Entries) → Valid kind pages entries
      → (answer ≡ Accepted (rows_listed kind (book_of entries) first second skip (length buffer))) × (buffer_after ≡ buffer_after_list kind (book_of entries) first second skip buffer)

-- NOT OPEN comes first; the pages and the openness stay whatever the pages are
pub record Lists (kind : Kind) (before : State) (first second : Field) (skip : ℕ) (buffer : List ℕ) (answer : Answer RowsListed) (after : State) (buffer_after : List ℕ) : Type 0 where
  pub leaves_the_pages : after.meaning ≡ before.meaning
  pub leaves_the_openness : after.is_open ≡ before.is_open
  pub refuses_if_not_open : before.is_open ≡ false → (answer ≡ Refused 1 0) × (buffer_after ≡ buffer)
  pub lists_if_open : before.is_open ≡ true → ListsRows kind (pages_of before) first second skip buffer answer buffer_after
