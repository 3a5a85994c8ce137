-- Where the parts of a batch file stand, and the rows with lines that its bytes hold.
use Rattle.std.specs.Prelude.{ℕ, ◌+◌, ◌*◌, cond, List, [], ◌∷◌, map, take, drop, ◌==◌, slice_index}
use Rattle.std.specs.Simd.{first_chunks}
use Rattle.numbers.specs.BigEndian.{number_at}
use Rattle.batches.specs.declared.line.Sign.TheVariants.{Posting, Cancelling}
use Rattle.batches.specs.declared.line.Line.{Line}
use Rattle.batches.specs.Layout.{Row}

abbrev pub kind_code : List ℕ → ℕ
kind_code bytes = slice_index bytes 4

abbrev pub row_count : List ℕ → ℕ
row_count bytes = number_at 4 bytes 8

abbrev pub line_count : List ℕ → ℕ
line_count bytes = number_at 4 bytes 12

-- bytes cut into so many pieces of one width
abbrev pub pieces : (width count : ℕ) → List ℕ → List (List ℕ)
pieces width count bytes = first_chunks width count bytes

-- a row as it stands: any key, any numbers
pub record Content : Type 0 where
  pub key : List ℕ
  pub first : ℕ
  pub count : ℕ

abbrev pub content_of : List ℕ → Content
content_of piece = record { key = take 24 piece; first = number_at 4 piece 24; count = number_at 4 piece 28 }

unfoldable pub contents_in : List ℕ → List Content
contents_in bytes = map content_of (pieces 32 (row_count bytes) (drop 16 bytes))

-- a line as it stands: any sign byte, any number
pub record Cell : Type 0 where
  pub sign : ℕ
  pub number : ℕ

abbrev pub cell_of : List ℕ → Cell
cell_of piece = record { sign = slice_index piece 0; number = number_at 8 piece 1 }

unfoldable pub cells_in : List ℕ → List Cell
cells_in bytes = map cell_of (pieces 9 (line_count bytes) (drop (16 + 32 * row_count bytes) bytes))

abbrev pub line_of : Cell → Line
line_of cell = record { sign = cond (cell.sign == 43) Posting Cancelling; number = cell.number }

-- each row takes its count of lines from those that are left
abbrev pub rows_of : List Content → List Cell → List Row
rows_of [] cells = []
rows_of (content ∷ contents) cells =
    record { key = content.key; lines = map line_of (take content.count cells) } ∷ rows_of contents (drop content.count cells)

-- the rows with lines that a batch's bytes hold
unfoldable pub rows_in : List ℕ → List Row
rows_in bytes = rows_of (contents_in bytes) (cells_in bytes)
