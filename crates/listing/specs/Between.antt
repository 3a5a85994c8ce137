-- A listing between two lawful keys.
use Rattle.std.specs.Prelude.{◌≡◌, ℕ, List, length}
use Rattle.refusals.specs.Refusals.{Answer, Accepted}
use Rattle.keys.specs.Kinds.{Kind, Field}
use Rattle.book.specs.Entries.{Entries, book_of}
use Rattle.book.specs.Looking.{buffer_after_list}
use Rattle.tree.specs.Valid.{Pages, Valid}
use Rattle.calls.specs.declared.answers.RowsListed.{RowsListed}
use Rattle.calls.specs.Listings.{rows_listed}

-- on a valid tree, what a listing answers and leaves in the buffer
pub record ListsBetween (kind : Kind) (pages : Pages) (first second : Field) (skip : ℕ) (buffer : List ℕ) (answer : Answer RowsListed) (after : List ℕ) : Type 0 where
  pub lists : (entries : Entries) → Valid kind pages entries → (answer ≡ Accepted (rows_listed kind (book_of entries) first second skip (length buffer))) × (after ≡ buffer_after_list kind (book_of entries) first second skip buffer)
