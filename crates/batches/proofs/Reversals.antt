-- The reversal of a file is the file of the reversed rows. Assumes nothing.
use Rattle.std.proofs.Common.{◌≡◌, ℕ, zero, suc, ◌+◌, ◌*◌, ◌≤◌, List, [], ◌∷◌, ◌++◌, map, length, take, drop, set, sym, refl, ap, ◌∙◌, mul-suc, arith, length-append}
use Rattle.std.proofs.lemmas.List.{take_at, drop_at, drop-drop, set_at, get_or_at, append_assoc, append-nil, map-append, length-map, length-take-le, length-drop, take-append-drop, drop_all}
use Rattle.std.specs.List.{flat_map, AllByRecursion}
use Rattle.numbers.specs.BigEndian.{bytes_of}
use Rattle.refusals.specs.Refusals.{is_accepted}
use Rattle.batches.specs.declared.line.Sign.{Sign}
use Rattle.batches.specs.declared.line.Sign.TheVariants.{Posting, Cancelling}
use Rattle.batches.specs.declared.line.Line.{Line}
use Rattle.batches.specs.Layout.{Row, sign_byte, lines_of, line_bytes, rows_bytes, head_bytes, file_of, Rising, RowFits, FileFits, HasLayout}
use Rattle.std.specs.Simd.{first_chunks}
use Rattle.batches.specs.Reading.{kind_code, row_count, line_count, rows_in}
use Rattle.batches.specs.Opening.{opens}
use Rattle.batches.specs.Reversal.{other_byte, turned, turned_from, reversal, other_sign, reversed_line, reversed_row, Reverses}
use Rattle.batches.proofs.Filing.{count_rows, count_lines, length_head, length_rows, after_rows, length_line, rows_of_file, file_opens}

-- places exchanged one after another are the pieces turned
turned_pieces : (count : ℕ) (a b : List ℕ) (at : ℕ) → length a ≡ at → 9 * count ≤ length b → turned_from at count (a ++ b) ≡ a ++ (flat_map turned (first_chunks 9 count b) ++ drop (9 * count) b)
turned_pieces zero a b at e h = refl
turned_pieces (suc count) a [] at e h = absurd (omega (arith, mul-suc 9 count))
turned_pieces (suc count) a (s ∷ b) at e h =
    let t = other_byte s in
    let piece = t ∷ take 8 b in
    let rest = drop 8 b in
    let whole : a ++ (t ∷ b) ≡ (a ++ piece) ++ rest = ap (λ (xs : List ℕ). a ++ (t ∷ xs)) (sym (take-append-drop 8 b)) ∙ sym (append_assoc a piece rest) in
    let eight : length (take 8 b) ≡ 8 = length-take-le 8 b (omega (arith, mul-suc 9 count)) in
    let long : length (a ++ piece) ≡ at + 9 = length-append a piece ∙ omega arith in
    let ih = turned_pieces count (a ++ piece) rest (at + 9) long (omega (arith, mul-suc 9 count, length-drop 8 b)) in
    let end : drop (9 * count) rest ≡ drop (9 * suc count) (s ∷ b) = drop-drop (9 * count) 8 b ∙ ap (λ (n : ℕ). drop n (s ∷ b)) {x = suc (8 + 9 * count)} {y = 9 * suc count} (omega (arith, mul-suc 9 count)) in
    ap (λ (x : ℕ). turned_from (at + 9) count (set (a ++ (s ∷ b)) at (other_byte x))) (get_or_at a s b 0 at e)
    ∙ ap (turned_from (at + 9) count) (set_at a s b t at e ∙ whole)
    ∙ ih
    ∙ append_assoc a piece (flat_map turned (first_chunks 9 count rest) ++ drop (9 * count) rest)
    ∙ ap (λ (xs : List ℕ). a ++ xs) (sym (append_assoc piece (flat_map turned (first_chunks 9 count rest)) (drop (9 * count) rest)))
    ∙ ap (λ (xs : List ℕ). a ++ ((piece ++ flat_map turned (first_chunks 9 count rest)) ++ xs)) end

pub turned_is_reversal : (bytes : List ℕ) → 16 + 32 * row_count bytes + 9 * line_count bytes ≡ length bytes → turned_from (16 + 32 * row_count bytes) (line_count bytes) bytes ≡ reversal bytes
unfolding reversal
turned_is_reversal bytes e =
    let from = 16 + 32 * row_count bytes in
    let front = take from bytes in
    let rest = drop from bytes in
    let none : drop (9 * line_count bytes) rest ≡ [] = drop_all (9 * line_count bytes) rest (omega (arith, length-drop from bytes)) in
    ap (turned_from from (line_count bytes)) (sym (take-append-drop from bytes))
    ∙ turned_pieces (line_count bytes) front rest from (length-take-le from bytes (omega arith)) (omega (arith, length-drop from bytes))
    ∙ ap (λ (xs : List ℕ). front ++ (flat_map turned (first_chunks 9 (line_count bytes) rest) ++ xs)) none
    ∙ ap (λ (xs : List ℕ). front ++ xs) (append-nil (flat_map turned (first_chunks 9 (line_count bytes) rest)))

reversal_is : (bytes : List ℕ) (rows lines : ℕ) → row_count bytes ≡ rows → line_count bytes ≡ lines → reversal bytes ≡ take (16 + 32 * rows) bytes ++ flat_map turned (first_chunks 9 lines (drop (16 + 32 * rows) bytes))
unfolding reversal
reversal_is bytes rows lines e f = rw (e, f)

-- lines and rows with their signs exchanged
line_turned : (sign : Sign) (number : List ℕ) → turned (sign_byte sign ∷ number) ≡ sign_byte (other_sign sign) ∷ number
line_turned Posting number = refl
line_turned Cancelling number = refl

piece_turned : (count : ℕ) (piece rest : List ℕ) → length piece ≡ 9 → flat_map turned (first_chunks 9 (suc count) (piece ++ rest)) ≡ turned piece ++ flat_map turned (first_chunks 9 count rest)
piece_turned count piece rest l = rw (take_at piece rest 9 l, drop_at piece rest 9 l)

lines_turned : (lines : List Line) → flat_map turned (first_chunks 9 (length lines) (flat_map line_bytes lines)) ≡ flat_map line_bytes (map reversed_line lines)
lines_turned [] = refl
lines_turned (line ∷ lines) =
    piece_turned (length lines) (line_bytes line) (flat_map line_bytes lines) (length_line line)
    ∙ ap (λ (xs : List ℕ). turned (line_bytes line) ++ xs) (lines_turned lines)
    ∙ ap (λ (xs : List ℕ). xs ++ flat_map line_bytes (map reversed_line lines)) (line_turned line.sign (bytes_of 8 line.number))

lines_of_reversed : (rows : List Row) → lines_of (map reversed_row rows) ≡ map reversed_line (lines_of rows)
lines_of_reversed [] = refl
lines_of_reversed (row ∷ rows) = rw (lines_of_reversed rows) (sym (map-append reversed_line row.lines (lines_of rows)))

rows_of_reversed : (first : ℕ) (rows : List Row) → rows_bytes first (map reversed_row rows) ≡ rows_bytes first rows
rows_of_reversed first [] = refl
rows_of_reversed first (row ∷ rows) = rw (length-map row.lines reversed_line, rows_of_reversed (first + length row.lines) rows)

sign_twice : (sign : Sign) → other_sign (other_sign sign) ≡ sign
sign_twice Posting = refl
sign_twice Cancelling = refl

lines_twice : (lines : List Line) → map reversed_line (map reversed_line lines) ≡ lines
lines_twice [] = refl
lines_twice (line ∷ lines) = rw (sign_twice line.sign, lines_twice lines)

rows_twice : (rows : List Row) → map reversed_row (map reversed_row rows) ≡ rows
rows_twice [] = refl
rows_twice (row ∷ rows) = rw (lines_twice row.lines, rows_twice rows)

rising_reversed : (low : ℕ) (lines : List Line) → Rising low lines → Rising low (map reversed_line lines)
rising_reversed low [] h = tt
rising_reversed low (line ∷ lines) h = (h.0, h.1, rising_reversed line.number lines h.2)

rows_fit_reversed : (rows : List Row) → AllByRecursion RowFits rows → AllByRecursion RowFits (map reversed_row rows)
rows_fit_reversed [] h = tt
rows_fit_reversed (row ∷ rows) h = (
  record {
    key_is_24_bytes = h.0.key_is_24_bytes;
    key_holds_bytes = h.0.key_holds_bytes;
    has_a_line = let some = h.0.has_a_line in omega (arith, length-map row.lines reversed_line);
    numbers_rise_from_1 = rising_reversed 0 row.lines h.0.numbers_rise_from_1;
  },
  rows_fit_reversed rows h.1,
)

module _ (code : ℕ) (rows : List Row) (fits : FileFits code rows) where
  lines_kept : length (lines_of (map reversed_row rows)) ≡ length (lines_of rows)
  lines_kept = ap length (lines_of_reversed rows) ∙ length-map (lines_of rows) reversed_line

  pub fits_reversed : FileFits code (map reversed_row rows)
  fits_reversed =
      record {
        code_is_a_byte = fits.code_is_a_byte;
        at_most_1024_rows = let f = fits.at_most_1024_rows in omega (arith, length-map rows reversed_row);
        at_most_1024_lines = let f = fits.at_most_1024_lines in omega (arith, lines_kept);
        each_row_fits = rows_fit_reversed rows fits.each_row_fits;
      }

  front_is : take (16 + 32 * length rows) (file_of code rows) ≡ head_bytes code (length rows) (length (lines_of rows)) ++ rows_bytes 0 rows
  front_is =
      let head = head_bytes code (length rows) (length (lines_of rows)) in
      let long : length (head ++ rows_bytes 0 rows) ≡ 16 + 32 * length rows = length-append head (rows_bytes 0 rows) ∙ omega (arith, length_head code rows fits, length_rows 0 rows fits.each_row_fits) in
      ap (take (16 + 32 * length rows)) (sym (append_assoc head (rows_bytes 0 rows) (flat_map line_bytes (lines_of rows))))
      ∙ take_at (head ++ rows_bytes 0 rows) (flat_map line_bytes (lines_of rows)) (16 + 32 * length rows) long

  pub reversal_of_file : reversal (file_of code rows) ≡ file_of code (map reversed_row rows)
  reversal_of_file =
      let lines = lines_of rows in
      let back = map reversed_row rows in
      let count : length back ≡ length rows = length-map rows reversed_row in
      reversal_is (file_of code rows) (length rows) (length lines) (count_rows code rows fits) (count_lines code rows fits)
      ∙ ap (λ (xs : List ℕ). xs ++ flat_map turned (first_chunks 9 (length lines) (drop (16 + 32 * length rows) (file_of code rows)))) front_is
      ∙ ap (λ (xs : List ℕ). (head_bytes code (length rows) (length lines) ++ rows_bytes 0 rows) ++ flat_map turned (first_chunks 9 (length lines) xs)) (after_rows code rows fits)
      ∙ ap (λ (xs : List ℕ). (head_bytes code (length rows) (length lines) ++ rows_bytes 0 rows) ++ xs) (lines_turned lines ∙ ap (flat_map line_bytes) (sym (lines_of_reversed rows)))
      ∙ append_assoc (head_bytes code (length rows) (length lines)) (rows_bytes 0 rows) (flat_map line_bytes (lines_of back))
      ∙ ap (λ (xs : List ℕ). head_bytes code (length rows) (length lines) ++ (xs ++ flat_map line_bytes (lines_of back))) (sym (rows_of_reversed 0 rows))
      ∙ ap (λ (n : ℕ). head_bytes code n (length lines) ++ (rows_bytes 0 back ++ flat_map line_bytes (lines_of back))) (sym count)
      ∙ ap (λ (n : ℕ). head_bytes code (length back) n ++ (rows_bytes 0 back ++ flat_map line_bytes (lines_of back))) (sym lines_kept)

-- what the reversal of bytes with the layout is
module _ (bytes : List ℕ) (has : HasLayout bytes) where
  reversal_of_bytes : reversal bytes ≡ file_of has.code (map reversed_row has.rows)
  reversal_of_bytes = ap reversal has.is_the_file ∙ reversal_of_file has.code has.rows has.fits

  back_fits : FileFits has.code (map reversed_row has.rows)
  back_fits = fits_reversed has.code has.rows has.fits

  its_rows : rows_in bytes ≡ has.rows
  its_rows = ap rows_in has.is_the_file ∙ rows_of_file has.code has.rows has.fits

  pub reverses : Reverses bytes (reversal bytes)
  reverses =
      record {
        it_opens = ap (λ (xs : List ℕ). opens xs) reversal_of_bytes ∙ ap is_accepted (file_opens has.code (map reversed_row has.rows) back_fits);
        keeps_the_kind = ap kind_code reversal_of_bytes ∙ sym (ap kind_code has.is_the_file);
        its_rows_are_the_rows_with_signs_exchanged =
            ap rows_in reversal_of_bytes ∙ rows_of_file has.code (map reversed_row has.rows) back_fits ∙ ap (map reversed_row) (sym its_rows);
        its_reversal_is_the_batch =
            ap reversal reversal_of_bytes
            ∙ reversal_of_file has.code (map reversed_row has.rows) back_fits
            ∙ ap (file_of has.code) (rows_twice has.rows)
            ∙ sym has.is_the_file;
      }
