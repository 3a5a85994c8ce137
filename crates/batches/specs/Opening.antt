-- What opening a batch answers: the first step of its form that fails, else its first bad line.
use Rattle.std.specs.Prelude.{ℕ, suc, ◌+◌, ◌*◌, ◌^◌, Bool, ◌&&◌, ◌||◌, List, [], ◌∷◌, length, take, drop, ◌==◌, nat_le, nat_lt, slice_index}
use Rattle.refusals.specs.Refusals.{Answer, Accepted, wants, and_then, is_accepted}
use Rattle.batches.specs.Reading.{row_count, line_count, Content, contents_in, Cell, cells_in}

-- step 1: at least 16 bytes, and the letters BTCH
abbrev pub has_letters : List ℕ → Bool
has_letters bytes = nat_le 16 (length bytes) && (slice_index bytes 0 == 66 && (slice_index bytes 1 == 84 && (slice_index bytes 2 == 67 && slice_index bytes 3 == 72)))

-- step 2: the zero bytes, and both counts at most 1,024
abbrev pub counts_fit : List ℕ → Bool
counts_fit bytes = slice_index bytes 5 == 0 && (slice_index bytes 6 == 0 && (slice_index bytes 7 == 0 && (nat_le (row_count bytes) 1024 && nat_le (line_count bytes) 1024)))

-- step 3: the length that the counts give
abbrev pub length_fits : List ℕ → Bool
length_fits bytes = length bytes == 16 + 32 * row_count bytes + 9 * line_count bytes

-- step 4: each row has a line, and rows follow one another without gap from line `next` to line `end`
abbrev pub follow : (next : ℕ) → List Content → (end : ℕ) → Bool
follow next [] end = next == end
follow next (row ∷ rows) end = nat_lt 0 row.count && (row.first == next && follow (next + row.count) rows end)

-- + or -
abbrev pub has_sign : Cell → Bool
has_sign cell = cell.sign == 43 || cell.sign == 45

-- a sign, and a number above the one before it in its row, below 2^63
abbrev pub good_cell : (low : ℕ) → Cell → Bool
good_cell low cell = has_sign cell && (nat_lt low cell.number && nat_lt cell.number (2 ^ 63))

-- the first bad line of a row; `line` is the number of the next, and `low` the number that it has to lie above
abbrev pub row_answer : (line low : ℕ) → List Cell → Answer Unit
row_answer line low [] = Accepted tt
row_answer line low (cell ∷ cells) = and_then (wants (good_cell low cell) 5 line) (row_answer (suc line) cell.number cells)

-- the first bad line of the rows; the numbers rise anew in each
abbrev pub lines_answer : (line : ℕ) → List Content → List Cell → Answer Unit
lines_answer line [] cells = Accepted tt
lines_answer line (row ∷ rows) cells =
    and_then (row_answer line 0 (take row.count cells)) (lines_answer (line + row.count) rows (drop row.count cells))

unfoldable pub open_answer : List ℕ → Answer Unit
open_answer bytes =
    and_then (wants (has_letters bytes) 2 1)
    (and_then (wants (counts_fit bytes) 2 2)
    (and_then (wants (length_fits bytes) 2 3)
    (and_then (wants (follow 0 (contents_in bytes) (line_count bytes)) 2 4)
    (lines_answer 0 (contents_in bytes) (cells_in bytes)))))

abbrev pub opens : List ℕ → Bool
opens bytes = is_accepted (open_answer bytes)
