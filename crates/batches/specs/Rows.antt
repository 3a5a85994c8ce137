-- What is read through an open batch.
use Rattle.std.specs.Prelude.{◌≡◌, ℕ, ◌+◌, ◌<◌, ◌≤◌, List, [], map, length, take, Some, None, Option, slice_index_or, IfSome}
use Rattle.std.specs.Iterator.{YieldsFirstBy}
use Rattle.batches.specs.declared.line.Line.{Line}
use Rattle.batches.specs.declared.rows.BatchRow.{BatchRow}
use Rattle.batches.specs.declared.rows.OpenRow.{OpenRow}
use Rattle.batches.specs.Layout.{Row, lines_of}
use Rattle.batches.specs.Reading.{cell_of, line_of}
use Rattle.batches.specs.Walking.{RowsLeft}

-- the lines of a row that was read, and the row
abbrev pub lines_read : OpenRow → List Line
lines_read row = map line_of (map cell_of row.pieces.now)

abbrev pub row_read : OpenRow → Row
row_read row = record { key = row.key.now; lines = lines_read row }

-- how many lines stand before row i
abbrev pub lines_before : List Row → (i : ℕ) → ℕ
lines_before rows i = length (lines_of (take i rows))

abbrev pub no_row : Row
no_row = record { key = []; lines = [] }

-- row i with its key field, the number of its first line and its count of lines; nothing past the last row
abbrev pub RowAt : List Row → (i : ℕ) → Option BatchRow → Type 0
RowAt rows i None = length rows ≤ i
RowAt rows i (Some row) =
    (i < length rows)
    × (row.key.now ≡ (slice_index_or rows i no_row).key)
    × (row.first ≡ lines_before rows i)
    × (row.count ≡ length (slice_index_or rows i no_row).lines)

-- the next row with the number of its first line; nothing after the last
abbrev pub GivesRow : RowsLeft → Option OpenRow → RowsLeft → Type 0
GivesRow left given then_left =
    YieldsFirstBy row_read (λ (x : RowsLeft). x.rows) left given then_left
    × IfSome given (λ row. (row.first ≡ left.first) × (then_left.first ≡ left.first + row.count))
