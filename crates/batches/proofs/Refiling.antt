-- Bytes that open are the file of the rows that they hold. Assumes nothing.
use Rattle.std.proofs.Common.{◌≡◌, ℕ, zero, suc, ◌+◌, ◌*◌, ◌≤◌, Bool, true, false, cond, eqb, List, [], ◌∷◌, ◌++◌, map, length, get_or, take, drop, sym, refl, ap, ◌∙◌, mul-zero, mul-suc, arith, take-add, eqb-true}
use Rattle.std.proofs.lemmas.List.{drop-drop, length-map, length-drop, take-append-drop, length-take-le, take_all}
use Rattle.std.specs.List.{flat_map, AllByRecursion}
use Rattle.numbers.specs.BigEndian.{bytes_of, Bytes, part, number_at}
use Rattle.std.proofs.lemmas.Bool.Decides.{nat_tests}
use Rattle.batches.proofs.Pieces.{length_cells}
use Rattle.numbers.proofs.Spelling.{byte_at, bytes_of_number, length_part, number_is}
use Rattle.refusals.specs.Refusals.{Accepted}
use Rattle.batches.specs.declared.line.Sign.TheVariants.{Posting, Cancelling}
use Rattle.batches.specs.declared.line.Line.{Line}
use Rattle.batches.specs.Layout.{sign_byte, lines_of, line_bytes, row_bytes, rows_bytes, head_bytes, file_of, Rising, RowFits, FileFits, HasLayout}
use Rattle.std.specs.Simd.{first_chunks}
use Rattle.batches.specs.Reading.{kind_code, row_count, line_count, content_of, contents_in, Cell, cell_of, cells_in, line_of, rows_of, rows_in}
use Rattle.batches.specs.Opening.{follow, has_sign, row_answer, lines_answer, open_answer}
use Rattle.batches.proofs.Opened.{above_of_good, below_of_good, Signed, good_first, good_rest, first_row, other_rows, signed, enough, left, letters, counts, follows, lines_good, rows_length, row_count_is_told, lines_are, line_count_is_told}
use Rattle.batches.proofs.Steps.{follow_parts, few_rows, few_lines}
use Rattle.numbers.proofs.Reading.{cells, part_cells}

-- pieces put together again
pub joined_pieces : (width count : ℕ) (bytes : List ℕ) → flat_map (λ (piece : List ℕ). piece) (first_chunks width count bytes) ≡ take (width * count) bytes
joined_pieces width zero bytes = rw mul-zero
joined_pieces width (suc count) bytes =
    let e : width * suc count ≡ width + width * count = omega (arith, mul-suc width count) in
    rw (e, take-add width (width * count) bytes, joined_pieces width count (drop width bytes))

-- what holds of every piece of bytes: its length, and that it holds bytes
pub record Piece (width : ℕ) (piece : List ℕ) : Type 0 where
  pub long : length piece ≡ width
  pub bytes : Bytes piece

bytes_front : (n : ℕ) (xs : List ℕ) → Bytes xs → Bytes (take n xs)
bytes_front zero xs h = tt
bytes_front (suc n) [] h = tt
bytes_front (suc n) (x ∷ xs) h = (h.0, bytes_front n xs h.1)

bytes_rest : (n : ℕ) (xs : List ℕ) → Bytes xs → Bytes (drop n xs)
bytes_rest zero xs h = h
bytes_rest (suc n) [] h = tt
bytes_rest (suc n) (x ∷ xs) h = bytes_rest n xs h.1

each_piece : (width count : ℕ) (bytes : List ℕ) → width * count ≤ length bytes → Bytes bytes → AllByRecursion (Piece width) (first_chunks width count bytes)
each_piece width zero bytes e h = tt
each_piece width (suc count) bytes e h = (
  record { long = length-take-le width bytes (omega (arith, mul-suc width count)); bytes = bytes_front width bytes h },
  each_piece width count (drop width bytes) (omega (arith, mul-suc width count, length-drop width bytes)) (bytes_rest width bytes h),
)

-- a number's bytes are those that it was read from
spelled : (width at : ℕ) (bytes : List ℕ) → at + width ≤ length bytes → Bytes bytes → bytes_of width (number_at width bytes at) ≡ part at width bytes
spelled width at bytes within h =
    ap (bytes_of width) (number_is width at bytes within)
    ∙ bytes_of_number width (part at width bytes) (length_part at width bytes within) (bytes_front width (drop at bytes) (bytes_rest at bytes h))

-- a row's bytes
row_bytes_of_piece : (piece : List ℕ) (next : ℕ) (lines : List Line) → Piece 32 piece → (content_of piece).first ≡ next → (content_of piece).count ≡ length lines → row_bytes next (record { key = take 24 piece; lines = lines }) ≡ piece
row_bytes_of_piece piece next lines p first count =
    let a : bytes_of 4 next ≡ part 24 4 piece = ap (bytes_of 4) (sym first) ∙ spelled 4 24 piece (omega (arith, p.long)) p.bytes in
    let b : bytes_of 4 (length lines) ≡ part 28 4 piece = ap (bytes_of 4) (sym count) ∙ spelled 4 28 piece (omega (arith, p.long)) p.bytes in
    let last : part 28 4 piece ≡ drop 4 (drop 24 piece) = take_all 4 (drop 28 piece) (omega (arith, length-drop 28 piece, p.long)) ∙ sym (drop-drop 4 24 piece) in
    ap (λ (xs : List ℕ). take 24 piece ++ (xs ++ bytes_of 4 (length lines))) a
    ∙ ap (λ (xs : List ℕ). take 24 piece ++ (part 24 4 piece ++ xs)) (b ∙ last)
    ∙ ap (λ (xs : List ℕ). take 24 piece ++ xs) (take-append-drop 4 (drop 24 piece))
    ∙ take-append-drop 24 piece

-- a line's bytes
sign_again : (s n : ℕ) → has_sign (record { sign = s; number = n }) ≡ true → sign_byte (cond (eqb s 43) Posting Cancelling) ≡ s
sign_again s n h = go (eqb s 43) refl
  where
    go : (b : Bool) → eqb s 43 ≡ b → sign_byte (cond (eqb s 43) Posting Cancelling) ≡ s
    go true e = rw e (sym (eqb-true s 43 e))
    go false e = let k : eqb s 45 ≡ true = rw e at h in rw e (sym (eqb-true s 45 k))

line_bytes_of_piece : (piece : List ℕ) → Piece 9 piece → has_sign (cell_of piece) ≡ true → line_bytes (line_of (cell_of piece)) ≡ piece
line_bytes_of_piece [] p sign = absurd (let l = p.long in omega arith)
line_bytes_of_piece (s ∷ number) p sign =
    let l = p.long in
    ap (λ (x : ℕ). x ∷ bytes_of 8 (number_at 8 (s ∷ number) 1)) (sign_again s (number_at 8 (s ∷ number) 1) sign)
    ∙ ap (λ (xs : List ℕ). s ∷ xs) (spelled 8 1 (s ∷ number) (omega arith) p.bytes ∙ take_all 8 number (omega arith))

rising_row : (j low : ℕ) (cells : List Cell) → row_answer j low cells ≡ Accepted tt → Rising low (map line_of cells)
rising_row j low [] e = tt
rising_row j low (cell ∷ cells) e =
    let good = good_first j low cell cells e in
    (above_of_good low cell good, below_of_good low cell good, rising_row (suc j) cell.number cells (good_rest j low cell cells e))

rows_bytes_of_pieces : (next end : ℕ) (ps : List (List ℕ)) (cells : List Cell) → AllByRecursion (Piece 32) ps → follow next (map content_of ps) end ≡ true → next + length cells ≡ end → rows_bytes next (rows_of (map content_of ps) cells) ≡ flat_map (λ (piece : List ℕ). piece) ps
rows_bytes_of_pieces next end [] cells all f e = refl
rows_bytes_of_pieces next end (piece ∷ ps) cells all f e =
    let n = number_at 4 piece 28 in
    let lines = map line_of (take n cells) in
    let p = follow_parts next (content_of piece) (map content_of ps) end f in
    let k = enough next end (content_of piece) (map content_of ps) cells f e in
    let count : length lines ≡ n = length-map (take n cells) line_of ∙ length-take-le n cells k in
    let ih = rows_bytes_of_pieces (next + n) end ps (drop n cells) all.1 p.2 (left next end n cells k e) in
    ap (λ (xs : List ℕ). xs ++ rows_bytes (next + length lines) (rows_of (map content_of ps) (drop n cells))) (row_bytes_of_piece piece next lines all.0 p.1 (sym count))
    ∙ ap (λ (m : ℕ). piece ++ rows_bytes (next + m) (rows_of (map content_of ps) (drop n cells))) count
    ∙ ap (λ (xs : List ℕ). piece ++ xs) ih

lines_bytes : (ps : List (List ℕ)) → AllByRecursion (Piece 9) ps → Signed (map cell_of ps) → flat_map line_bytes (map line_of (map cell_of ps)) ≡ flat_map (λ (piece : List ℕ). piece) ps
lines_bytes [] all signed = refl
lines_bytes (piece ∷ ps) all signed =
    ap (λ (xs : List ℕ). xs ++ flat_map line_bytes (map line_of (map cell_of ps))) (line_bytes_of_piece piece all.0 signed.0)
    ∙ ap (λ (xs : List ℕ). piece ++ xs) (lines_bytes ps all.1 signed.1)

-- each row fits
rows_fit : (j next end : ℕ) (ps : List (List ℕ)) (cells : List Cell) → AllByRecursion (Piece 32) ps → follow next (map content_of ps) end ≡ true → next + length cells ≡ end → lines_answer j (map content_of ps) cells ≡ Accepted tt → AllByRecursion RowFits (rows_of (map content_of ps) cells)
rows_fit j next end [] cells all f e a = tt
rows_fit j next end (piece ∷ ps) cells all f e a =
    let n = number_at 4 piece 28 in
    let p = follow_parts next (content_of piece) (map content_of ps) end f in
    let k = enough next end (content_of piece) (map content_of ps) cells f e in
    let count : length (map line_of (take n cells)) ≡ n = length-map (take n cells) line_of ∙ length-take-le n cells k in (
      record {
        key_is_24_bytes = length-take-le 24 piece (let l = all.0.long in omega arith);
        key_holds_bytes = bytes_front 24 piece all.0.bytes;
        has_a_line = let some = p.0 in omega arith;
        numbers_rise_from_1 = rising_row j 0 (take n cells) (first_row j (content_of piece) (map content_of ps) cells a);
      },
      rows_fit (j + n) (next + n) end ps (drop n cells) all.1 p.2 (left next end n cells k e) (other_rows j (content_of piece) (map content_of ps) cells a),
    )

-- bytes that open
module _ (bytes : List ℕ) (real : Bytes bytes) (opened : open_answer bytes ≡ Accepted tt) where
  first_eight : take 8 bytes ≡ 66 ∷ 84 ∷ 67 ∷ 72 ∷ kind_code bytes ∷ 0 ∷ 0 ∷ 0 ∷ []
  first_eight =
      let l = (letters bytes opened) in
      let k = (counts bytes opened) in
      let a : get_or bytes 0 0 ≡ 66 = grind (arith, nat_tests) in
      let b : get_or bytes 1 0 ≡ 84 = grind (arith, nat_tests) in
      let d : get_or bytes 2 0 ≡ 67 = grind (arith, nat_tests) in
      let e : get_or bytes 3 0 ≡ 72 = grind (arith, nat_tests) in
      let f : get_or bytes 5 0 ≡ 0 = grind (arith, nat_tests) in
      let g : get_or bytes 6 0 ≡ 0 = grind (arith, nat_tests) in
      let h : get_or bytes 7 0 ≡ 0 = grind (arith, nat_tests) in
      part_cells bytes 0 0 8 (omega (arith, (rows_length bytes opened))) ∙ rw (a, b, d, e, f, g, h)

  rows_read : AllByRecursion (Piece 32) (first_chunks 32 (row_count bytes) (drop 16 bytes))
  rows_read = each_piece 32 (row_count bytes) (drop 16 bytes) (omega (arith, (rows_length bytes opened), length-drop 16 bytes)) (bytes_rest 16 bytes real)

  lines_read : AllByRecursion (Piece 9) (first_chunks 9 (line_count bytes) (drop (16 + 32 * row_count bytes) bytes))
  lines_read = each_piece 9 (line_count bytes) (drop (16 + 32 * row_count bytes) bytes) (omega (arith, (rows_length bytes opened), length-drop (16 + 32 * row_count bytes) bytes)) (bytes_rest (16 + 32 * row_count bytes) bytes real)

  head_bytes_are_back : head_bytes (kind_code bytes) (length (rows_in bytes)) (length (lines_of (rows_in bytes))) ≡ take 16 bytes
  head_bytes_are_back =
      let rows = length (rows_in bytes) in
      let lines = length (lines_of (rows_in bytes)) in
      let second : take 8 (drop 8 bytes) ≡ part 8 4 bytes ++ part 12 4 bytes = take-add 4 4 (drop 8 bytes) ∙ ap (λ (xs : List ℕ). part 8 4 bytes ++ take 4 xs) (drop-drop 4 8 bytes) in
      ap (λ (xs : List ℕ). xs ++ (bytes_of 4 rows ++ bytes_of 4 lines)) (sym first_eight)
      ∙ ap (λ (xs : List ℕ). take 8 bytes ++ (xs ++ bytes_of 4 lines)) (ap (bytes_of 4) (row_count_is_told bytes opened) ∙ spelled 4 8 bytes (omega (arith, (rows_length bytes opened))) real)
      ∙ ap (λ (xs : List ℕ). take 8 bytes ++ (part 8 4 bytes ++ xs)) (ap (bytes_of 4) (line_count_is_told bytes opened) ∙ spelled 4 12 bytes (omega (arith, (rows_length bytes opened))) real)
      ∙ ap (λ (xs : List ℕ). take 8 bytes ++ xs) (sym second)
      ∙ sym (take-add 8 8 bytes)

  rows_are : rows_bytes 0 (rows_in bytes) ≡ take (32 * row_count bytes) (drop 16 bytes)
  unfolding rows_in contents_in
  rows_are =
      rows_bytes_of_pieces 0 (line_count bytes) (first_chunks 32 (row_count bytes) (drop 16 bytes)) (cells_in bytes) rows_read (follows bytes opened) (omega (arith, length_cells bytes))
      ∙ joined_pieces 32 (row_count bytes) (drop 16 bytes)

  lines_bytes_are : flat_map line_bytes (lines_of (rows_in bytes)) ≡ take (9 * line_count bytes) (drop (16 + 32 * row_count bytes) bytes)
  unfolding cells_in
  lines_bytes_are =
      ap (flat_map line_bytes) (lines_are bytes opened)
      ∙ lines_bytes (first_chunks 9 (line_count bytes) (drop (16 + 32 * row_count bytes) bytes)) lines_read (signed bytes opened)
      ∙ joined_pieces 9 (line_count bytes) (drop (16 + 32 * row_count bytes) bytes)

  pub is_its_file : bytes ≡ file_of (kind_code bytes) (rows_in bytes)
  is_its_file =
      let rest = drop (16 + 32 * row_count bytes) bytes in
      let all : take (9 * line_count bytes) rest ≡ rest = take_all (9 * line_count bytes) rest (omega (arith, (rows_length bytes opened), length-drop (16 + 32 * row_count bytes) bytes)) in
      sym
      (ap (λ (xs : List ℕ). xs ++ (rows_bytes 0 (rows_in bytes) ++ flat_map line_bytes (lines_of (rows_in bytes)))) head_bytes_are_back
      ∙ ap (λ (xs : List ℕ). take 16 bytes ++ (xs ++ flat_map line_bytes (lines_of (rows_in bytes)))) rows_are
      ∙ ap (λ (xs : List ℕ). take 16 bytes ++ (take (32 * row_count bytes) (drop 16 bytes) ++ xs)) (lines_bytes_are ∙ all ∙ sym (drop-drop (32 * row_count bytes) 16 bytes))
      ∙ ap (λ (xs : List ℕ). take 16 bytes ++ xs) (take-append-drop (32 * row_count bytes) (drop 16 bytes))
      ∙ take-append-drop 16 bytes)

  pub its_rows_fit : FileFits (kind_code bytes) (rows_in bytes)
  unfolding rows_in contents_in
  its_rows_fit =
      record {
        code_is_a_byte = byte_at bytes 4 real (omega (arith, (rows_length bytes opened)));
        at_most_1024_rows = omega (arith, (row_count_is_told bytes opened), few_rows bytes (counts bytes opened));
        at_most_1024_lines = omega (arith, (line_count_is_told bytes opened), few_lines bytes (counts bytes opened));
        each_row_fits = rows_fit 0 0 (line_count bytes) (first_chunks 32 (row_count bytes) (drop 16 bytes)) (cells_in bytes) rows_read (follows bytes opened) (omega (arith, length_cells bytes)) (lines_good bytes opened);
      }

  pub has_layout : HasLayout bytes
  has_layout = record { code = kind_code bytes; rows = rows_in bytes; fits = its_rows_fit; is_the_file = is_its_file }
