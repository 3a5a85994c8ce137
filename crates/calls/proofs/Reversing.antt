-- The reversal of bytes that open, opened and read again: whatever numbers stand for the bytes. Assumes nothing.
use Rattle.std.proofs.Common.{◌≡◌, ℕ, zero, suc, ◌+◌, ◌*◌, ◌^◌, ◌<◌, ◌≤◌, Bool, true, false, cond, ◌&&◌, ◌||◌, eqb, ltb, List, [], ◌∷◌, ◌++◌, map, length, get_or, take, drop, sym, refl, ap, ◌∙◌, mul-suc, arith}
use Rattle.std.specs.List.{flat_map, AllByRecursion}
use Rattle.std.proofs.ByRecursion.{All-take, All-drop}
use Rattle.std.proofs.lemmas.List.{length-append, length-take-le, length-drop, take-append-drop, take-append-le, drop-append-le, get_or_append_left, take_at, drop_at, take-map, drop-map}
use Rattle.refusals.specs.Refusals.{Accepted}
use Rattle.numbers.specs.BigEndian.{number_of, number_at}
use Rattle.numbers.proofs.Spelling.{number_is}
use Rattle.batches.specs.declared.line.Sign.TheVariants.{Posting, Cancelling}
use Rattle.batches.specs.declared.line.Line.{Line}
use Rattle.batches.specs.Layout.{Rising}
use Rattle.batches.specs.Reading.{kind_code, row_count, line_count, pieces, Content, content_of, contents_in, Cell, cell_of, cells_in, line_of, rows_of, rows_in}
use Rattle.batches.specs.Opening.{has_sign, good_cell, row_answer, lines_answer, open_answer}
use Rattle.batches.specs.Reversal.{other_byte, turned, reversal, other_sign, reversed_line, reversed_row}
use Rattle.batches.proofs.Opened.{above_of_good, below_of_good, Signed, good_first, good_rest, first_row, other_rows, lines_good, rows_length, signed}
use Rattle.batches.proofs.Pieces.{length_pieces}
use Rattle.book.specs.Merging.{RowsRise}

-- numbers rise in the rows of bytes that open
rising_row : (line low : ℕ) (cells : List Cell) → row_answer line low cells ≡ Accepted tt → Rising low (map line_of cells)
rising_row line low [] e = tt
rising_row line low (cell ∷ cells) e =
    let good = good_first line low cell cells e in
    (above_of_good low cell good, below_of_good low cell good, rising_row (suc line) cell.number cells (good_rest line low cell cells e))

rising_rows : (line : ℕ) (contents : List Content) (cells : List Cell) → lines_answer line contents cells ≡ Accepted tt → RowsRise (rows_of contents cells)
rising_rows line [] cells e = tt
rising_rows line (content ∷ contents) cells e =
    (rising_row line 0 (take content.count cells) (first_row line content contents cells e), rising_rows (line + content.count) contents (drop content.count cells) (other_rows line content contents cells e))

pub rows_rise : (bytes : List ℕ) → open_answer bytes ≡ Accepted tt → RowsRise (rows_in bytes)
unfolding rows_in
rows_rise bytes opened = rising_rows 0 (contents_in bytes) (cells_in bytes) (lines_good bytes opened)

-- a line with its sign exchanged
abbrev turned_cell : Cell → Cell
turned_cell cell = record { sign = other_byte cell.sign; number = cell.number }

sign_turned : (byte : ℕ) → (eqb (other_byte byte) 43 || eqb (other_byte byte) 45) ≡ (eqb byte 43 || eqb byte 45)
sign_turned byte = go (eqb byte 43) (eqb byte 45) refl refl
  where
    go : (plus minus : Bool) → eqb byte 43 ≡ plus → eqb byte 45 ≡ minus → (eqb (cond plus 45 (cond minus 43 byte)) 43 || eqb (cond plus 45 (cond minus 43 byte)) 45) ≡ (plus || minus)
    go true minus p m = refl
    go false true p m = refl
    go false false p m = rw (p, m)

good_turned : (low : ℕ) (cell : Cell) → good_cell low (turned_cell cell) ≡ good_cell low cell
good_turned low cell = ap (λ (sign : Bool). sign && (ltb low cell.number && ltb cell.number (2 ^ 63))) (sign_turned cell.sign)

line_turned : (cell : Cell) → has_sign cell ≡ true → line_of (turned_cell cell) ≡ reversed_line (line_of cell)
line_turned cell has = go (eqb cell.sign 43) (eqb cell.sign 45) has
  where
    go : (plus minus : Bool) → (plus || minus) ≡ true
        → ◌≡◌ {A = Line} (record { sign = cond (eqb (cond plus 45 (cond minus 43 cell.sign)) 43) Posting Cancelling; number = cell.number }) (record { sign = other_sign (cond plus Posting Cancelling); number = cell.number })
    go true minus e = refl
    go false true e = refl
    go false false e = cc

row_turned : (line low : ℕ) (cells : List Cell) → row_answer line low (map turned_cell cells) ≡ row_answer line low cells
row_turned line low [] = refl
row_turned line low (cell ∷ cells) = rw (good_turned low cell, row_turned (suc line) cell.number cells)

answer_turned : (line : ℕ) (contents : List Content) (cells : List Cell) → lines_answer line contents (map turned_cell cells) ≡ lines_answer line contents cells
answer_turned line [] cells = refl
answer_turned line (content ∷ contents) cells =
    rw (take-map turned_cell content.count cells, drop-map turned_cell content.count cells, row_turned line 0 (take content.count cells), answer_turned (line + content.count) contents (drop content.count cells))

lines_turned : (cells : List Cell) → Signed cells → map line_of (map turned_cell cells) ≡ map reversed_line (map line_of cells)
lines_turned [] all = refl
lines_turned (cell ∷ cells) all = rw (line_turned cell all.0, lines_turned cells all.1)

rows_turned : (contents : List Content) (cells : List Cell) → Signed cells → rows_of contents (map turned_cell cells) ≡ map reversed_row (rows_of contents cells)
rows_turned [] cells all = refl
rows_turned (content ∷ contents) cells all =
    let n = content.count in
    rw (take-map turned_cell n cells, drop-map turned_cell n cells, lines_turned (take n cells) (All-take (λ (cell : Cell). has_sign cell ≡ true) n cells all), rows_turned contents (drop n cells) (All-drop (λ (cell : Cell). has_sign cell ≡ true) n cells all))

-- pieces of nine bytes with their first exchanged
abbrev Nine : List ℕ → Type 0
Nine piece = length piece ≡ 9

all_nine : (count : ℕ) (bytes : List ℕ) → 9 * count ≤ length bytes → AllByRecursion Nine (pieces 9 count bytes)
all_nine zero bytes e = tt
all_nine (suc count) bytes e =
    (length-take-le 9 bytes (omega (arith, mul-suc 9 count)), all_nine count (drop 9 bytes) (omega (arith, mul-suc 9 count, length-drop 9 bytes)))

length_turned : (piece : List ℕ) → length (turned piece) ≡ length piece
length_turned [] = refl
length_turned (sign ∷ number) = refl

cell_turned : (piece : List ℕ) → Nine piece → cell_of (turned piece) ≡ turned_cell (cell_of piece)
unfolding number_at
cell_turned [] e = absurd (omega arith)
cell_turned (sign ∷ number) e = refl

cells_turned : (ps : List (List ℕ)) → AllByRecursion Nine ps → map cell_of (pieces 9 (length ps) (flat_map turned ps)) ≡ map turned_cell (map cell_of ps)
cells_turned [] all = refl
cells_turned (p ∷ ps) all =
    let long : length (turned p) ≡ 9 = length_turned p ∙ all.0 in
    rw (take_at (turned p) (flat_map turned ps) 9 long, drop_at (turned p) (flat_map turned ps) 9 long, cell_turned p all.0, cells_turned ps all.1)

length_joined : (ps : List (List ℕ)) → AllByRecursion Nine ps → length (flat_map turned ps) ≡ 9 * length ps
length_joined [] all = refl
length_joined (p ∷ ps) all =
    let here = all.0 in
    length-append (turned p) (flat_map turned ps) ∙ omega (arith, length_turned p, length_joined ps all.1, mul-suc 9 (length ps))

-- what is read of a front does not depend on what follows it
number_front : (width at : ℕ) (front rest : List ℕ) → at + width ≤ length front → number_at width (front ++ rest) at ≡ number_at width front at
number_front width at front rest h =
    number_is width at (front ++ rest) (omega (arith, length-append front rest))
    ∙ ap number_of (ap (take width) (drop-append-le at front rest (omega arith)) ∙ take-append-le width (drop at front) rest (omega (arith, length-drop at front)))
    ∙ sym (number_is width at front h)

pieces_front : (width count : ℕ) (front rest : List ℕ) → width * count ≤ length front → pieces width count (front ++ rest) ≡ pieces width count front
pieces_front width zero front rest h = refl
pieces_front width (suc count) front rest h =
    let fits : width ≤ length front = omega (arith, mul-suc width count) in
    rw (take-append-le width front rest fits, drop-append-le width front rest fits, pieces_front width count (drop width front) rest (omega (arith, mul-suc width count, length-drop width front)))

-- the same front before other lines of the same length
module _ (bytes front xs ys : List ℕ) (whole : bytes ≡ front ++ xs) (rows : 16 + 32 * row_count bytes ≡ length front) (long : length ys ≡ length xs) where
  same_length : length (front ++ ys) ≡ length bytes
  same_length = length-append front ys ∙ ap (λ (n : ℕ). length front + n) long ∙ sym (ap length whole ∙ length-append front xs)

  same_byte : (i : ℕ) → i < 16 → get_or (front ++ ys) i 0 ≡ get_or bytes i 0
  same_byte i h = get_or_append_left front ys 0 i (omega arith) ∙ sym (ap (λ (l : List ℕ). get_or l i 0) whole ∙ get_or_append_left front xs 0 i (omega arith))

  same_number : (at : ℕ) → at + 4 ≤ 16 → number_at 4 (front ++ ys) at ≡ number_at 4 bytes at
  same_number at h = number_front 4 at front ys (omega arith) ∙ sym (ap (λ (l : List ℕ). number_at 4 l at) whole ∙ number_front 4 at front xs (omega arith))

  same_contents : contents_in (front ++ ys) ≡ contents_in bytes
  unfolding contents_in
  same_contents =
      let n = row_count bytes in
      let fits : 16 ≤ length front = omega arith in
      let enough : 32 * n ≤ length (drop 16 front) = omega (arith, length-drop 16 front) in
      let read : (rest : List ℕ) → pieces 32 n (drop 16 (front ++ rest)) ≡ pieces 32 n (drop 16 front) =
      λ rest. ap (pieces 32 n) (drop-append-le 16 front rest fits) ∙ pieces_front 32 n (drop 16 front) rest enough in
      ap (λ (count : ℕ). map content_of (pieces 32 count (drop 16 (front ++ ys)))) (same_number 8 (omega arith))
      ∙ ap (map content_of) (read ys ∙ sym (read xs))
      ∙ ap (λ (l : List ℕ). map content_of (pieces 32 n (drop 16 l))) (sym whole)

  same_cells : cells_in (front ++ ys) ≡ map cell_of (pieces 9 (line_count bytes) ys)
  unfolding cells_in
  same_cells =
      ap (λ (n : ℕ). map cell_of (pieces 9 n (drop (16 + 32 * row_count (front ++ ys)) (front ++ ys)))) (same_number 12 (omega arith))
      ∙ ap (λ (n : ℕ). map cell_of (pieces 9 (line_count bytes) (drop (16 + 32 * n) (front ++ ys)))) (same_number 8 (omega arith))
      ∙ ap (λ (l : List ℕ). map cell_of (pieces 9 (line_count bytes) l)) (drop_at front ys (16 + 32 * row_count bytes) (sym rows))

  -- so all is answered alike up to the lines
  same_opening : lines_answer 0 (contents_in bytes) (cells_in (front ++ ys)) ≡ lines_answer 0 (contents_in bytes) (cells_in bytes) → open_answer (front ++ ys) ≡ open_answer bytes
  unfolding open_answer
  same_opening lines =
      rw (same_length, same_byte 0 (omega arith), same_byte 1 (omega arith), same_byte 2 (omega arith), same_byte 3 (omega arith), same_byte 5 (omega arith), same_byte 6 (omega arith), same_byte 7 (omega arith), same_number 8 (omega arith), same_number 12 (omega arith), same_contents, lines)

-- what the reversal of bytes that open is
module _ (bytes : List ℕ) (opened : open_answer bytes ≡ Accepted tt) where
  abbrev front : List ℕ
  front = take (16 + 32 * row_count bytes) bytes

  abbrev lines : List ℕ
  lines = drop (16 + 32 * row_count bytes) bytes

  abbrev cut : List (List ℕ)
  cut = pieces 9 (line_count bytes) lines

  length_lines : length lines ≡ 9 * line_count bytes
  length_lines = omega (arith, length-drop (16 + 32 * row_count bytes) bytes, rows_length bytes opened)

  each_nine : AllByRecursion Nine cut
  each_nine = all_nine (line_count bytes) lines (omega (arith, length_lines))

  count_cut : length cut ≡ line_count bytes
  count_cut = length_pieces 9 (line_count bytes) lines

  whole : bytes ≡ front ++ lines
  whole = sym (take-append-drop (16 + 32 * row_count bytes) bytes)

  rows : 16 + 32 * row_count bytes ≡ length front
  rows = sym (length-take-le (16 + 32 * row_count bytes) bytes (omega (arith, rows_length bytes opened)))

  long : length (flat_map turned cut) ≡ length lines
  long = length_joined cut each_nine ∙ omega (arith, count_cut, length_lines)

  cells_exchanged : cells_in (front ++ flat_map turned cut) ≡ map turned_cell (cells_in bytes)
  unfolding cells_in
  cells_exchanged =
      same_cells bytes front lines (flat_map turned cut) whole rows long
      ∙ ap (λ (n : ℕ). map cell_of (pieces 9 n (flat_map turned cut))) (sym count_cut)
      ∙ cells_turned cut each_nine

  pub reversal_opens : open_answer (reversal bytes) ≡ Accepted tt
  unfolding reversal
  reversal_opens =
      same_opening bytes front lines (flat_map turned cut) whole rows long
      (ap (lines_answer 0 (contents_in bytes)) cells_exchanged ∙ answer_turned 0 (contents_in bytes) (cells_in bytes))
      ∙ opened

  pub reversal_keeps_the_kind : kind_code (reversal bytes) ≡ kind_code bytes
  unfolding reversal
  reversal_keeps_the_kind = same_byte bytes front lines (flat_map turned cut) whole rows long 4 (omega arith)

  pub reversal_rows : rows_in (reversal bytes) ≡ map reversed_row (rows_in bytes)
  unfolding reversal rows_in
  reversal_rows =
      ap (λ (contents : List Content). rows_of contents (cells_in (front ++ flat_map turned cut))) (same_contents bytes front lines (flat_map turned cut) whole rows long)
      ∙ ap (rows_of (contents_in bytes)) cells_exchanged
      ∙ rows_turned (contents_in bytes) (cells_in bytes) (signed bytes opened)
