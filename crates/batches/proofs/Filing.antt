-- A file that was written from rows is cut back into them. Assumes nothing.
use Rattle.std.proofs.Common.{◌≡◌, ℕ, suc, ◌+◌, ◌*◌, ◌^◌, ◌<◌, ◌≤◌, true, cond, eqb, List, [], ◌∷◌, ◌++◌, map, length, take, drop, sym, refl, ap, ◌∙◌, zero-add, mul-suc, arith, length-append, lt-ltb, eq-eqb, le-leb}
use Rattle.std.proofs.lemmas.List.{take_at, drop_at, drop-drop, append_assoc, append-nil, map-append, length-map}
use Rattle.std.specs.List.{flat_map as joined, AllByRecursion}
use Rattle.numbers.specs.BigEndian.{bytes_of, number_at}
use Rattle.numbers.proofs.Spelling.{length_bytes_of, number_bytes_of, number_between}
use Rattle.refusals.specs.Refusals.{Accepted}
use Rattle.batches.specs.declared.line.Sign.{Sign}
use Rattle.batches.specs.declared.line.Sign.TheVariants.{Posting, Cancelling}
use Rattle.batches.specs.declared.line.Line.{Line}
use Rattle.batches.specs.Layout.{Row, sign_byte, lines_of, line_bytes, row_bytes, rows_bytes, head_bytes, file_of, Rising, RowFits, FileFits}
use Rattle.std.specs.Simd.{first_chunks}
use Rattle.batches.specs.Reading.{row_count, line_count, Content, content_of, contents_in, Cell, cell_of, cells_in, line_of, rows_of, rows_in}
use Rattle.batches.specs.Opening.{has_letters, counts_fit, length_fits, follow, has_sign, row_answer, lines_answer, open_answer}
use Rattle.batches.proofs.Steps.{comes_to_the_lines}

-- what rows look like as they stand
abbrev contents_of : ℕ → List Row → List Content
contents_of first [] = []
contents_of first (row ∷ rows) = record { key = row.key; first = first; count = length row.lines } ∷ contents_of (first + length row.lines) rows

abbrev cell_from : Line → Cell
cell_from line = record { sign = sign_byte line.sign; number = line.number }

length_row : (first : ℕ) (row : Row) → RowFits row → length (row_bytes first row) ≡ 32
length_row first row fits =
    simp (length-append) (omega (arith, fits.key_is_24_bytes, length_bytes_of 4 first, length_bytes_of 4 (length row.lines)))

content_row : (first : ℕ) (row : Row) → RowFits row → first < 2 ^ 32 → length row.lines < 2 ^ 32 → content_of (row_bytes first row) ≡ record { key = row.key; first = first; count = length row.lines }
content_row first row fits small few =
    let k = fits.key_is_24_bytes in
    let count = length row.lines in
    let key : take 24 (row_bytes first row) ≡ row.key = take_at row.key (bytes_of 4 first ++ bytes_of 4 count) 24 k in
    let at24 : number_at 4 (row_bytes first row) 24 ≡ first = number_between 4 24 row.key (bytes_of 4 first) (bytes_of 4 count) k (length_bytes_of 4 first) ∙ number_bytes_of 4 first (omega arith) in
    let front : length (row.key ++ bytes_of 4 first) ≡ 28 = length-append row.key (bytes_of 4 first) ∙ omega (arith, k, length_bytes_of 4 first) in
    let whole : row_bytes first row ≡ (row.key ++ bytes_of 4 first) ++ (bytes_of 4 count ++ []) = ap (λ (xs : List ℕ). row.key ++ (bytes_of 4 first ++ xs)) (sym (append-nil (bytes_of 4 count))) ∙ sym (append_assoc row.key (bytes_of 4 first) (bytes_of 4 count ++ [])) in
    let at28 : number_at 4 (row_bytes first row) 28 ≡ count = ap (λ (xs : List ℕ). number_at 4 xs 28) whole ∙ number_between 4 28 (row.key ++ bytes_of 4 first) (bytes_of 4 count) [] front (length_bytes_of 4 count) ∙ number_bytes_of 4 count (omega arith) in
    ap (λ (x : List ℕ). record { key = x; first = number_at 4 (row_bytes first row) 24; count = number_at 4 (row_bytes first row) 28 }) key
    ∙ ap (λ (x : ℕ). record { key = row.key; first = x; count = number_at 4 (row_bytes first row) 28 }) at24
    ∙ ap (λ (x : ℕ). record { key = row.key; first = first; count = x }) at28

-- how many lines rows have
lines_more : (row : Row) (rows : List Row) → length (lines_of (row ∷ rows)) ≡ length row.lines + length (lines_of rows)
lines_more row rows = length-append row.lines (lines_of rows)

contents_of_pieces : (first : ℕ) (rows : List Row) (rest : List ℕ) → AllByRecursion RowFits rows → first + length (lines_of rows) < 2 ^ 32 → map content_of (first_chunks 32 (length rows) (rows_bytes first rows ++ rest)) ≡ contents_of first rows
contents_of_pieces first [] rest fits small = refl
contents_of_pieces first (row ∷ rows) rest fits small =
    let l = length_row first row fits.0 in
    let m = lines_more row rows in
    let e : rows_bytes first (row ∷ rows) ++ rest ≡ row_bytes first row ++ (rows_bytes (first + length row.lines) rows ++ rest) = append_assoc (row_bytes first row) (rows_bytes (first + length row.lines) rows) rest in
    let ih = contents_of_pieces (first + length row.lines) rows rest fits.1 (omega arith) in
    rw (e, take_at (row_bytes first row) (rows_bytes (first + length row.lines) rows ++ rest) 32 l, drop_at (row_bytes first row) (rows_bytes (first + length row.lines) rows ++ rest) 32 l, content_row first row fits.0 (omega arith) (omega arith), ih)

follow_of : (first : ℕ) (rows : List Row) → AllByRecursion RowFits rows → follow first (contents_of first rows) (first + length (lines_of rows)) ≡ true
follow_of first [] fits = eq-eqb first (first + 0) (omega arith)
follow_of first (row ∷ rows) fits =
    let e : first + length (lines_of (row ∷ rows)) ≡ first + length row.lines + length (lines_of rows) = omega (arith, lines_more row rows) in
    rw (lt-ltb 0 (length row.lines) fits.0.has_a_line, eq-eqb first first refl, e) (follow_of (first + length row.lines) rows fits.1)

pub length_line : (line : Line) → length (line_bytes line) ≡ 9
length_line line = ap suc (length_bytes_of 8 line.number)

number_line : (line : Line) → line.number < 2 ^ 64 → number_at 8 (line_bytes line) 1 ≡ line.number
number_line line small =
    let e : line_bytes line ≡ (sign_byte line.sign ∷ []) ++ (bytes_of 8 line.number ++ []) = ap (λ (xs : List ℕ). sign_byte line.sign ∷ xs) (sym (append-nil (bytes_of 8 line.number))) in
    ap (λ (xs : List ℕ). number_at 8 xs 1) e
    ∙ number_between 8 1 (sign_byte line.sign ∷ []) (bytes_of 8 line.number) [] refl (length_bytes_of 8 line.number)
    ∙ number_bytes_of 8 line.number (omega arith)

cell_line : (line : Line) → line.number < 2 ^ 64 → cell_of (line_bytes line) ≡ cell_from line
cell_line line small = ap (λ (n : ℕ). record { sign = sign_byte line.sign; number = n }) (number_line line small)

-- each number is below 2^63
abbrev Small : List Line → Type 0
Small lines = AllByRecursion (λ (line : Line). line.number < 2 ^ 63) lines

small_rising : (low : ℕ) (lines : List Line) → Rising low lines → Small lines
small_rising low [] h = tt
small_rising low (line ∷ lines) h = (h.1, small_rising line.number lines h.2)

small_both : (a b : List Line) → Small a → Small b → Small (a ++ b)
small_both [] b h k = k
small_both (line ∷ a) b h k = (h.0, small_both a b h.1 k)

pub small_lines : (rows : List Row) → AllByRecursion RowFits rows → Small (lines_of rows)
small_lines [] fits = tt
small_lines (row ∷ rows) fits = small_both row.lines (lines_of rows) (small_rising 0 row.lines fits.0.numbers_rise_from_1) (small_lines rows fits.1)

cells_of : (lines : List Line) → Small lines → map cell_of (first_chunks 9 (length lines) (joined line_bytes lines)) ≡ map cell_from lines
cells_of [] h = refl
cells_of (line ∷ lines) h =
    let l = length_line line in
    rw (take_at (line_bytes line) (joined line_bytes lines) 9 l, drop_at (line_bytes line) (joined line_bytes lines) 9 l, cell_line line (let s = h.0 in omega arith), cells_of lines h.1)

-- a line's sign comes back
sign_back : (sign : Sign) → cond (eqb (sign_byte sign) 43) Posting Cancelling ≡ sign
sign_back Posting = refl
sign_back Cancelling = refl

line_back : (line : Line) → line_of (cell_from line) ≡ line
line_back line = ap (λ (sign : Sign). record { sign = sign; number = line.number }) (sign_back line.sign)

sign_byte_has_sign : (sign : Sign) (n : ℕ) → has_sign (record { sign = sign_byte sign; number = n }) ≡ true
sign_byte_has_sign Posting n = refl
sign_byte_has_sign Cancelling n = refl

lines_back : (lines : List Line) → map line_of (map cell_from lines) ≡ lines
lines_back [] = refl
lines_back (line ∷ lines) = rw (line_back line, lines_back lines)

row_accepted : (j low : ℕ) (lines : List Line) → Rising low lines → row_answer j low (map cell_from lines) ≡ Accepted tt
row_accepted j low [] h = refl
row_accepted j low (line ∷ lines) h =
    rw (sign_byte_has_sign line.sign line.number, lt-ltb low line.number h.0, lt-ltb line.number (2 ^ 63) h.1) (row_accepted (suc j) line.number lines h.2)

module _ (row : Row) (rows : List Row) where
  front_cells : take (length row.lines) (map cell_from (lines_of (row ∷ rows))) ≡ map cell_from row.lines
  front_cells = rw (map-append cell_from row.lines (lines_of rows)) (take_at (map cell_from row.lines) (map cell_from (lines_of rows)) (length row.lines) (length-map row.lines cell_from))

  rest_cells : drop (length row.lines) (map cell_from (lines_of (row ∷ rows))) ≡ map cell_from (lines_of rows)
  rest_cells = rw (map-append cell_from row.lines (lines_of rows)) (drop_at (map cell_from row.lines) (map cell_from (lines_of rows)) (length row.lines) (length-map row.lines cell_from))

lines_accepted : (j : ℕ) (rows : List Row) → AllByRecursion RowFits rows → lines_answer j (contents_of j rows) (map cell_from (lines_of rows)) ≡ Accepted tt
lines_accepted j [] fits = refl
lines_accepted j (row ∷ rows) fits =
    rw (front_cells row rows, rest_cells row rows, row_accepted j 0 row.lines fits.0.numbers_rise_from_1) (lines_accepted (j + length row.lines) rows fits.1)

rows_back : (first : ℕ) (rows : List Row) → rows_of (contents_of first rows) (map cell_from (lines_of rows)) ≡ rows
rows_back first [] = refl
rows_back first (row ∷ rows) =
    rw (front_cells row rows, rest_cells row rows, lines_back row.lines, rows_back (first + length row.lines) rows)

pub length_rows : (first : ℕ) (rows : List Row) → AllByRecursion RowFits rows → length (rows_bytes first rows) ≡ 32 * length rows
length_rows first [] fits = refl
length_rows first (row ∷ rows) fits =
    length-append (row_bytes first row) (rows_bytes (first + length row.lines) rows)
    ∙ omega (arith, length_row first row fits.0, length_rows (first + length row.lines) rows fits.1, mul-suc 32 (length rows))

length_lines : (lines : List Line) → length (joined line_bytes lines) ≡ 9 * length lines
length_lines [] = refl
length_lines (line ∷ lines) =
    length-append (line_bytes line) (joined line_bytes lines) ∙ omega (arith, length_line line, length_lines lines, mul-suc 9 (length lines))

-- a whole file
module _ (code : ℕ) (rows : List Row) (fits : FileFits code rows) where
  pub count_rows : row_count (file_of code rows) ≡ length rows
  count_rows = number_between 4 8 (66 ∷ 84 ∷ 67 ∷ 72 ∷ code ∷ 0 ∷ 0 ∷ 0 ∷ []) (bytes_of 4 (length rows)) (bytes_of 4 (length (lines_of rows)) ++ (rows_bytes 0 rows ++ joined line_bytes (lines_of rows))) refl (length_bytes_of 4 (length rows)) ∙ number_bytes_of 4 (length rows) (let f = fits.at_most_1024_rows in omega arith)

  pub count_lines : line_count (file_of code rows) ≡ length (lines_of rows)
  count_lines =
      let front : List ℕ = 66 ∷ 84 ∷ 67 ∷ 72 ∷ code ∷ 0 ∷ 0 ∷ 0 ∷ bytes_of 4 (length rows) in
      let rest : List ℕ = rows_bytes 0 rows ++ joined line_bytes (lines_of rows) in
      let e : file_of code rows ≡ front ++ (bytes_of 4 (length (lines_of rows)) ++ rest) = simp append_assoc in
      ap (λ (xs : List ℕ). number_at 4 xs 12) e
      ∙ number_between 4 12 front (bytes_of 4 (length (lines_of rows))) rest (omega (arith, length_bytes_of 4 (length rows))) (length_bytes_of 4 (length (lines_of rows)))
      ∙ number_bytes_of 4 (length (lines_of rows)) (let f = fits.at_most_1024_lines in omega arith)

  pub length_head : length (head_bytes code (length rows) (length (lines_of rows))) ≡ 16
  length_head =
      simp length-append (omega (arith, length_bytes_of 4 (length rows), length_bytes_of 4 (length (lines_of rows))))

  after_head : drop 16 (file_of code rows) ≡ rows_bytes 0 rows ++ joined line_bytes (lines_of rows)
  after_head = drop_at (head_bytes code (length rows) (length (lines_of rows))) (rows_bytes 0 rows ++ joined line_bytes (lines_of rows)) 16 length_head

  pub after_rows : drop (16 + 32 * length rows) (file_of code rows) ≡ joined line_bytes (lines_of rows)
  after_rows =
      sym (drop-drop (32 * length rows) 16 (file_of code rows))
      ∙ ap (drop (32 * length rows)) after_head
      ∙ drop_at (rows_bytes 0 rows) (joined line_bytes (lines_of rows)) (32 * length rows) (length_rows 0 rows fits.each_row_fits)

  pub contents_back : contents_in (file_of code rows) ≡ contents_of 0 rows
  unfolding contents_in
  contents_back = rw (count_rows, after_head) (contents_of_pieces 0 rows (joined line_bytes (lines_of rows)) fits.each_row_fits (let f = fits.at_most_1024_lines in omega arith))

  pub cells_back : cells_in (file_of code rows) ≡ map cell_from (lines_of rows)
  unfolding cells_in
  cells_back = rw (count_rows, count_lines, after_rows) (cells_of (lines_of rows) (small_lines rows fits.each_row_fits))

  -- the rows of a file are those that it was written from
  pub rows_of_file : rows_in (file_of code rows) ≡ rows
  unfolding rows_in
  rows_of_file = rw (contents_back, cells_back) (rows_back 0 rows)

  length_file : length (file_of code rows) ≡ 16 + 32 * length rows + 9 * length (lines_of rows)
  length_file =
      let a = length-append (head_bytes code (length rows) (length (lines_of rows))) (rows_bytes 0 rows ++ joined line_bytes (lines_of rows)) in
      let b = length-append (rows_bytes 0 rows) (joined line_bytes (lines_of rows)) in
      omega (arith, length_head, length_rows 0 rows fits.each_row_fits, length_lines (lines_of rows))

  file_has_letters : has_letters (file_of code rows) ≡ true
  file_has_letters = let h : 16 ≤ length (file_of code rows) = omega (arith, length_file) in rw (le-leb 16 (length (file_of code rows)) h)

  file_counts_fit : counts_fit (file_of code rows) ≡ true
  file_counts_fit = rw (count_rows, count_lines, le-leb (length rows) 1024 fits.at_most_1024_rows, le-leb (length (lines_of rows)) 1024 fits.at_most_1024_lines)

  file_length_fits : length_fits (file_of code rows) ≡ true
  file_length_fits = eq-eqb (length (file_of code rows)) (16 + 32 * row_count (file_of code rows) + 9 * line_count (file_of code rows)) (omega (arith, length_file, count_rows, count_lines))

  rows_follow : follow 0 (contents_in (file_of code rows)) (line_count (file_of code rows)) ≡ true
  rows_follow = rw (contents_back, count_lines) (rw zero-add at (follow_of 0 rows fits.each_row_fits))

  -- a file with the layout opens
  pub file_opens : open_answer (file_of code rows) ≡ Accepted tt
  file_opens =
      comes_to_the_lines (file_of code rows) file_has_letters file_counts_fit file_length_fits rows_follow
      ∙ rw (contents_back, cells_back) (lines_accepted 0 rows fits.each_row_fits)
