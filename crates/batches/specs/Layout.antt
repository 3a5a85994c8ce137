-- What a batch file is: a function from a kind code and rows with their lines to bytes.
use Rattle.std.specs.Prelude.{◌≡◌, ℕ, ◌+◌, ◌^◌, ◌<◌, ◌≤◌, List, [], ◌∷◌, ◌++◌, length, codes}
use Rattle.std.specs.List.{flat_map, AllByRecursion}
use Rattle.numbers.specs.BigEndian.{bytes_of, Bytes}
use Rattle.batches.specs.declared.line.Sign.{Sign}
use Rattle.batches.specs.declared.line.Sign.TheVariants.{Posting, Cancelling}
use Rattle.batches.specs.declared.line.Line.{Line}

-- a contents row: a key field and its lines
pub record Row : Type 0 where
  pub key : List ℕ
  pub lines : List Line

-- + for a posting, - for a cancellation
abbrev pub sign_byte : Sign → ℕ
sign_byte Posting = 43
sign_byte Cancelling = 45

-- all lines of a batch in the order of the file
abbrev pub lines_of : List Row → List Line
lines_of rows = flat_map (λ (row : Row). row.lines) rows

-- nine bytes for a line
abbrev pub line_bytes : Line → List ℕ
line_bytes line = sign_byte line.sign ∷ bytes_of 8 line.number

-- 32 bytes for a row: its key field, the number of its first line, and how many it has
abbrev pub row_bytes : (first : ℕ) → Row → List ℕ
row_bytes first row = row.key ++ (bytes_of 4 first ++ bytes_of 4 (length row.lines))

-- the rows, each beginning with the line after the last of the one before
abbrev pub rows_bytes : (first : ℕ) → List Row → List ℕ
rows_bytes first [] = []
rows_bytes first (row ∷ rows) = row_bytes first row ++ rows_bytes (first + length row.lines) rows

-- 16 bytes in front: the letters, the kind code, three zeros, and both counts
abbrev pub head_bytes : (code rows lines : ℕ) → List ℕ
head_bytes code rows lines = codes "BTCH" ++ ((code ∷ 0 ∷ 0 ∷ 0 ∷ []) ++ (bytes_of 4 rows ++ bytes_of 4 lines))

-- the file
abbrev pub file_of : (code : ℕ) → List Row → List ℕ
file_of code rows = head_bytes code (length rows) (length (lines_of rows)) ++ (rows_bytes 0 rows ++ flat_map line_bytes (lines_of rows))

-- numbers rise strictly, from above `low`, and stay below 2^63
abbrev pub Rising : (low : ℕ) → List Line → Type 0
Rising low [] = Unit {0}
Rising low (line ∷ lines) = (low < line.number) × (line.number < 2 ^ 63) × Rising line.number lines

-- what a row of a file has to be: nothing is asked of its key but its 24 bytes
pub record RowFits (row : Row) : Type 0 where
  pub key_is_24_bytes : length row.key ≡ 24
  pub key_holds_bytes : Bytes row.key
  pub has_a_line : 0 < length row.lines
  pub numbers_rise_from_1 : Rising 0 row.lines

-- what a kind code and rows have to be
pub record FileFits (code : ℕ) (rows : List Row) : Type 0 where
  pub code_is_a_byte : code < 256
  pub at_most_1024_rows : length rows ≤ 1024
  pub at_most_1024_lines : length (lines_of rows) ≤ 1024
  pub each_row_fits : AllByRecursion RowFits rows

-- bytes have the layout if they are the file of some kind code and rows
pub record HasLayout (bytes : List ℕ) : Type 0 where
  pub code : ℕ
  pub rows : List Row
  pub fits : FileFits code rows
  pub is_the_file : bytes ≡ file_of code rows
