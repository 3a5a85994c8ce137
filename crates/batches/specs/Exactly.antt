-- What is read of a file is what it was written from.
use Rattle.std.specs.Prelude.{◌≡◌, ℕ, List}
use Rattle.batches.specs.Layout.{Row, FileFits, file_of}
use Rattle.batches.specs.Reading.{kind_code, rows_in}

-- the kind code and the rows with lines of a file come back from its bytes, so no two say the same bytes
pub record ReadsBack (code : ℕ) (rows : List Row) : Type 0 where
  pub its_kind_code : kind_code (file_of code rows) ≡ code
  pub its_rows : rows_in (file_of code rows) ≡ rows

abbrev pub FilesAreReadBack : Type 0
FilesAreReadBack = (code : ℕ) (rows : List Row) → FileFits code rows → ReadsBack code rows
