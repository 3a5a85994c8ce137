-- What is known of bytes that open. Assumes nothing.
use Rattle.std.proofs.Common.{◌≡◌, ℕ, zero, suc, ◌+◌, ◌*◌, ◌^◌, ◌<◌, ◌≤◌, true, ◌&&◌, ltb, List, [], ◌∷◌, map, length, take, drop, sym, refl, ap, ◌∙◌, arith, ltb-true, eqb-true}
use Rattle.std.proofs.lemmas.List.{map-append, length-map, length-drop, take-append-drop, nil_from_length}
use Rattle.refusals.specs.Refusals.{Answer, Accepted, wants, and_then}
use Rattle.refusals.proofs.Answering.{met_from_accepted, first_accepted, rest_accepted}
use Rattle.batches.specs.Layout.{lines_of}
use Rattle.batches.specs.Reading.{row_count, line_count, Content, contents_in, Cell, cells_in, line_of, rows_of, rows_in}
use Rattle.std.specs.List.{AllByRecursion}
use Rattle.batches.specs.Opening.{has_sign, good_cell, row_answer, has_letters, counts_fit, length_fits, follow, lines_answer, open_answer}
use Rattle.batches.proofs.Pieces.{length_contents, length_cells}
use Rattle.batches.proofs.Steps.{and_left, and_right, follow_parts, follow_bound, length_is}

-- a good line has a sign, and its number is in range
pub sign_of_good : (low : ℕ) (cell : Cell) → good_cell low cell ≡ true → has_sign cell ≡ true
sign_of_good low cell g = and_left (has_sign cell) (ltb low cell.number && ltb cell.number (2 ^ 63)) g

pub above_of_good : (low : ℕ) (cell : Cell) → good_cell low cell ≡ true → low < cell.number
above_of_good low cell g =
    ltb-true low cell.number (and_left (ltb low cell.number) (ltb cell.number (2 ^ 63)) (and_right (has_sign cell) (ltb low cell.number && ltb cell.number (2 ^ 63)) g))

pub below_of_good : (low : ℕ) (cell : Cell) → good_cell low cell ≡ true → cell.number < 2 ^ 63
below_of_good low cell g =
    ltb-true cell.number (2 ^ 63) (and_right (ltb low cell.number) (ltb cell.number (2 ^ 63)) (and_right (has_sign cell) (ltb low cell.number && ltb cell.number (2 ^ 63)) g))

abbrev pub Signed : List Cell → Type 0
Signed cells = AllByRecursion (λ (cell : Cell). has_sign cell ≡ true) cells

-- in a row that is accepted every line has a sign, and the numbers rise
module _ (j low : ℕ) (cell : Cell) (cells : List Cell) (e : row_answer j low (cell ∷ cells) ≡ Accepted tt) where
  pub good_first : good_cell low cell ≡ true
  good_first = met_from_accepted (good_cell low cell) 5 j (first_accepted (wants (good_cell low cell) 5 j) (row_answer (suc j) cell.number cells) tt e)

  pub good_rest : row_answer (suc j) cell.number cells ≡ Accepted tt
  good_rest = rest_accepted (wants (good_cell low cell) 5 j) (row_answer (suc j) cell.number cells) tt e

signed_row : (j low : ℕ) (cells : List Cell) → row_answer j low cells ≡ Accepted tt → Signed cells
signed_row j low [] e = tt
signed_row j low (cell ∷ cells) e = (sign_of_good low cell (good_first j low cell cells e), signed_row (suc j) cell.number cells (good_rest j low cell cells e))

-- the rows of pieces that follow one another, and whose lines are accepted
signed_both : (n : ℕ) (cells : List Cell) → Signed (take n cells) → Signed (drop n cells) → Signed cells
signed_both zero cells a b = b
signed_both (suc n) [] a b = tt
signed_both (suc n) (cell ∷ cells) a b = (a.0, signed_both n cells a.1 b)

module _ (j : ℕ) (content : Content) (contents : List Content) (cells : List Cell) (e : lines_answer j (content ∷ contents) cells ≡ Accepted tt) where
  pub first_row : row_answer j 0 (take content.count cells) ≡ Accepted tt
  first_row = first_accepted (row_answer j 0 (take content.count cells)) (lines_answer (j + content.count) contents (drop content.count cells)) tt e

  pub other_rows : lines_answer (j + content.count) contents (drop content.count cells) ≡ Accepted tt
  other_rows = rest_accepted (row_answer j 0 (take content.count cells)) (lines_answer (j + content.count) contents (drop content.count cells)) tt e

-- lines enough for the rows that are left
pub enough : (next end : ℕ) (content : Content) (contents : List Content) (cells : List Cell) → follow next (content ∷ contents) end ≡ true → next + length cells ≡ end → content.count ≤ length cells
enough next end content contents cells f e =
    let p = follow_parts next content contents end f in
    omega (arith, follow_bound contents (next + content.count) end p.2)

pub left : (next end n : ℕ) (cells : List Cell) → n ≤ length cells → next + length cells ≡ end → next + n + length (drop n cells) ≡ end
left next end n cells h e = omega (arith, length-drop n cells)

all_lines : (next end : ℕ) (contents : List Content) (cells : List Cell) → follow next contents end ≡ true → next + length cells ≡ end → lines_of (rows_of contents cells) ≡ map line_of cells
all_lines next end [] cells f e = let z = eqb-true next end f in rw (nil_from_length cells (omega arith))
all_lines next end (content ∷ contents) cells f e =
    let p = follow_parts next content contents end f in
    let k = enough next end content contents cells f e in
    rw (all_lines (next + content.count) end contents (drop content.count cells) p.2 (left next end content.count cells k e))
    (sym (map-append line_of (take content.count cells) (drop content.count cells)) ∙ ap (map line_of) (take-append-drop content.count cells))

signed_lines : (j next end : ℕ) (contents : List Content) (cells : List Cell) → follow next contents end ≡ true → next + length cells ≡ end → lines_answer j contents cells ≡ Accepted tt → Signed cells
signed_lines j next end [] cells f e a = let z = eqb-true next end f in rw (nil_from_length cells (omega arith)) tt
signed_lines j next end (content ∷ contents) cells f e a =
    let n = content.count in
    let p = follow_parts next content contents end f in
    let k = enough next end content contents cells f e in
    signed_both n cells (signed_row j 0 (take n cells) (first_row j content contents cells a))
    (signed_lines (j + n) (next + n) end contents (drop n cells) p.2 (left next end n cells k e) (other_rows j content contents cells a))

length_rows_of : (contents : List Content) (cells : List Cell) → length (rows_of contents cells) ≡ length contents
length_rows_of [] cells = refl
length_rows_of (content ∷ contents) cells = ap suc (length_rows_of contents (drop content.count cells))

-- bytes that open
module _ (bytes : List ℕ) (opened : open_answer bytes ≡ Accepted tt) where
  abbrev step4 : Answer Unit
  step4 = and_then (wants (follow 0 (contents_in bytes) (line_count bytes)) 2 4) (lines_answer 0 (contents_in bytes) (cells_in bytes))

  abbrev step3 : Answer Unit
  step3 = and_then (wants (length_fits bytes) 2 3) step4

  abbrev step2 : Answer Unit
  step2 = and_then (wants (counts_fit bytes) 2 2) step3

  pub letters : has_letters bytes ≡ true
  unfolding open_answer
  letters = met_from_accepted (has_letters bytes) 2 1 (first_accepted (wants (has_letters bytes) 2 1) step2 tt opened)

  from2 : step2 ≡ Accepted tt
  unfolding open_answer
  from2 = rest_accepted (wants (has_letters bytes) 2 1) step2 tt opened

  from3 : step3 ≡ Accepted tt
  from3 = rest_accepted (wants (counts_fit bytes) 2 2) step3 tt from2

  from4 : step4 ≡ Accepted tt
  from4 = rest_accepted (wants (length_fits bytes) 2 3) step4 tt from3

  pub counts : counts_fit bytes ≡ true
  counts = met_from_accepted (counts_fit bytes) 2 2 (first_accepted (wants (counts_fit bytes) 2 2) step3 tt from2)

  pub long : length_fits bytes ≡ true
  long = met_from_accepted (length_fits bytes) 2 3 (first_accepted (wants (length_fits bytes) 2 3) step4 tt from3)

  pub follows : follow 0 (contents_in bytes) (line_count bytes) ≡ true
  follows = met_from_accepted (follow 0 (contents_in bytes) (line_count bytes)) 2 4 (first_accepted (wants (follow 0 (contents_in bytes) (line_count bytes)) 2 4) (lines_answer 0 (contents_in bytes) (cells_in bytes)) tt from4)

  pub lines_good : lines_answer 0 (contents_in bytes) (cells_in bytes) ≡ Accepted tt
  lines_good = rest_accepted (wants (follow 0 (contents_in bytes) (line_count bytes)) 2 4) (lines_answer 0 (contents_in bytes) (cells_in bytes)) tt from4

  pub rows_length : 16 + 32 * row_count bytes + 9 * line_count bytes ≡ length bytes
  rows_length = length_is bytes long

  pub row_count_is_told : length (rows_in bytes) ≡ row_count bytes
  unfolding rows_in
  row_count_is_told = length_rows_of (contents_in bytes) (cells_in bytes) ∙ length_contents bytes

  pub lines_are : lines_of (rows_in bytes) ≡ map line_of (cells_in bytes)
  unfolding rows_in
  lines_are = all_lines 0 (line_count bytes) (contents_in bytes) (cells_in bytes) follows (omega (arith, length_cells bytes))

  pub line_count_is_told : length (lines_of (rows_in bytes)) ≡ line_count bytes
  line_count_is_told = ap length lines_are ∙ length-map (cells_in bytes) line_of ∙ length_cells bytes

  pub signed : Signed (cells_in bytes)
  signed = signed_lines 0 0 (line_count bytes) (contents_in bytes) (cells_in bytes) follows (omega (arith, length_cells bytes)) lines_good
