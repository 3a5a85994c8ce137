-- Rows and lines of an open batch as they stand and by number. Assumes nothing.
use Rattle.std.proofs.Common.{◌≡◌, ℕ, zero, suc, ◌+◌, ◌*◌, ◌<◌, ◌≤◌, true, List, [], ◌∷◌, map, length, get_or, take, drop, Some, None, sym, refl, ap, ◌∙◌, arith, length-append}
use Rattle.std.specs.List.{slice_get, AllPass}
use Rattle.std.specs.Option.{option_map}
use Rattle.std.proofs.lemmas.Option.{slice_get-map, slice_get_past, slice_get_read}
use Rattle.std.proofs.lemmas.List.{length-map, get_or-map, length-take-le}
use Rattle.refusals.specs.Refusals.{Accepted}
use Rattle.refusals.proofs.Answering.{accepted_from_test}
use Rattle.numbers.specs.BigEndian.{number_at}
use Rattle.batches.specs.declared.line.Line.{Line}
use Rattle.batches.specs.Layout.{lines_of}
use Rattle.batches.specs.Reading.{row_count, line_count, Content, content_of, contents_in, Cell, cell_of, cells_in, line_of, rows_of, rows_in}
use Rattle.batches.specs.Opening.{length_fits, follow, has_sign, open_answer, opens}
use Rattle.batches.specs.Walking.{RowsLeft, rows_left, RowsGoOn}
use Rattle.batches.specs.Rows.{lines_before, no_row}
use Rattle.batches.proofs.Pieces.{length_contents, length_cells}
use Rattle.batches.proofs.Steps.{follow_parts, few_rows, few_lines}
use Rattle.batches.proofs.Opened.{Signed, signed, enough, left, counts, long, follows, rows_length, row_count_is_told, lines_are, line_count_is_told}

key_at : (contents : List Content) (cells : List Cell) (i : ℕ) (d : Content) → i < length contents → (get_or contents i d).key ≡ (get_or (rows_of contents cells) i no_row).key
key_at [] cells i d h = absurd (omega arith)
key_at (content ∷ contents) cells zero d h = refl
key_at (content ∷ contents) cells (suc i) d h = key_at contents (drop content.count cells) i d (omega arith)

count_at : (next end : ℕ) (contents : List Content) (cells : List Cell) (i : ℕ) (d : Content) → follow next contents end ≡ true → next + length cells ≡ end → i < length contents → (get_or contents i d).count ≡ length (get_or (rows_of contents cells) i no_row).lines
count_at next end [] cells i d f e h = absurd (omega arith)
count_at next end (content ∷ contents) cells zero d f e h =
    sym (length-map (take content.count cells) line_of ∙ length-take-le content.count cells (enough next end content contents cells f e))
count_at next end (content ∷ contents) cells (suc i) d f e h =
    let n = content.count in
    count_at (next + n) end contents (drop n cells) i d (follow_parts next content contents end f).2 (left next end n cells (enough next end content contents cells f e) e) (omega arith)

first_at : (next end : ℕ) (contents : List Content) (cells : List Cell) (i : ℕ) (d : Content) → follow next contents end ≡ true → next + length cells ≡ end → i < length contents → (get_or contents i d).first ≡ next + lines_before (rows_of contents cells) i
first_at next end [] cells i d f e h = absurd (omega arith)
first_at next end (content ∷ contents) cells zero d f e h = let p = follow_parts next content contents end f in omega (arith, p.1)
first_at next end (content ∷ contents) cells (suc i) d f e h =
    let n = content.count in
    let k = enough next end content contents cells f e in
    let ih = first_at (next + n) end contents (drop n cells) i d (follow_parts next content contents end f).2 (left next end n cells k e) (omega arith) in
    let lines = map line_of (take n cells) in
    let long : length lines ≡ n = length-map (take n cells) line_of ∙ length-take-le n cells k in
    let more = length-append lines (lines_of (take i (rows_of contents (drop n cells)))) in
    omega arith

signed_at : (cells : List Cell) (j : ℕ) (d : Cell) → Signed cells → j < length cells → has_sign (get_or cells j d) ≡ true
signed_at [] j d h k = absurd (omega arith)
signed_at (cell ∷ cells) zero d h k = h.0
signed_at (cell ∷ cells) (suc j) d h k = signed_at cells j d h.1 (omega arith)

module _ (bytes : List ℕ) (opened : opens bytes ≡ true) where
  accepted : open_answer bytes ≡ Accepted tt
  accepted = accepted_from_test (open_answer bytes) opened

  pub rows_counted : row_count bytes ≡ length (rows_in bytes)
  rows_counted = sym (row_count_is_told bytes accepted)

  pub lines_counted : line_count bytes ≡ length (lines_of (rows_in bytes))
  lines_counted = sym (line_count_is_told bytes accepted)

  pub length_counted : 16 + 32 * row_count bytes + 9 * line_count bytes ≡ length bytes
  length_counted = rows_length bytes accepted

  pub rows_few : row_count bytes ≤ 1024
  rows_few = few_rows bytes (counts bytes accepted)

  pub lines_few : line_count bytes ≤ 1024
  lines_few = few_lines bytes (counts bytes accepted)

  pub has_a_head : 16 ≤ length bytes
  has_a_head = omega (arith, length_counted)

  pub its_length_fits : length_fits bytes ≡ true
  its_length_fits = long bytes accepted

  whole : 0 + length (cells_in bytes) ≡ line_count bytes
  whole = omega (arith, length_cells bytes)

  pub all_signed : AllPass has_sign (cells_in bytes)
  all_signed = λ j d h. signed_at (cells_in bytes) j d (signed bytes accepted) h

  -- its lines as they stand
  module _ (lines : List (List ℕ)) (cells : map cell_of lines ≡ cells_in bytes) where
    pub lines_signed : AllPass has_sign (map cell_of lines)
    lines_signed = rw cells all_signed

    pub lines_held : map line_of (map cell_of lines) ≡ lines_of (rows_in bytes)
    lines_held = ap (map line_of) cells ∙ sym (lines_are bytes accepted)

    pub few_lines_held : length (map line_of (map cell_of lines)) ≤ 1024
    few_lines_held = rw lines_held (omega (arith, lines_counted, few_lines bytes (counts bytes accepted)))

    counted : length lines ≡ line_count bytes
    counted = sym (length-map lines cell_of) ∙ ap length cells ∙ length_cells bytes

    pub line_is : (j : ℕ) (piece : List ℕ) → j < length lines → piece ≡ get_or lines j piece → slice_get (lines_of (rows_in bytes)) j ≡ Some (line_of (cell_of piece))
    line_is j piece within is =
        ap (λ (xs : List Line). slice_get xs j) (sym lines_held)
        ∙ slice_get-map line_of (map cell_of lines) j
        ∙ ap (option_map line_of) (slice_get-map cell_of lines j ∙ ap (option_map cell_of) (slice_get_read lines (length lines) j piece refl within is))

    pub no_line_is : (j : ℕ) → length lines ≤ j → slice_get (lines_of (rows_in bytes)) j ≡ None
    no_line_is j h = slice_get_past (lines_of (rows_in bytes)) j (omega (arith, lines_counted, counted))

    pub sign_is : (j : ℕ) (piece : List ℕ) → j < length lines → piece ≡ get_or lines j piece → has_sign (cell_of piece) ≡ true
    sign_is j piece within is =
        ap has_sign (ap cell_of is ∙ sym (get_or-map cell_of lines j piece (cell_of piece) within)) ∙ lines_signed j (cell_of piece) (omega (arith, length-map lines cell_of))

  pub no_row_there : (rows : List (List ℕ)) → map content_of rows ≡ contents_in bytes → (i : ℕ) → length rows ≤ i → length (rows_in bytes) ≤ i
  no_row_there rows contents i h = omega (arith, ap length contents, length-map rows content_of, length_contents bytes, rows_counted)

  -- its rows and its lines as they stand
  module _ (rows lines : List (List ℕ)) (contents : map content_of rows ≡ contents_in bytes) (cells : map cell_of lines ≡ cells_in bytes) where
    pub rows_go_on : RowsGoOn 0 rows lines
    rows_go_on =
        let end : 0 + length lines ≡ line_count bytes = omega (arith, counted lines cells) in
        record {
          follow_to_the_last_line = rw (contents, end) (follows bytes accepted);
          have_signs = lines_signed lines cells;
          few_lines = omega (arith, counted lines cells, few_lines bytes (counts bytes accepted));
        }

    pub rows_held : rows_left 0 rows lines ≡ record { first = 0; rows = rows_in bytes }
    unfolding rows_in
    rows_held = rw (contents, cells)

    pub few_rows_held : length (rows_of (map content_of rows) (map cell_of lines)) ≤ 1024
    few_rows_held = rw (ap (λ (left : RowsLeft). left.rows) rows_held) (omega (arith, rows_counted, few_rows bytes (counts bytes accepted)))

  -- a row by its number
  module _ (rows : List (List ℕ)) (contents : map content_of rows ≡ contents_in bytes) where
    module _ (i : ℕ) (piece : List ℕ) (within : i < length rows) (is : piece ≡ get_or rows i piece) where
      content_is : get_or (contents_in bytes) i (content_of piece) ≡ content_of piece
      content_is = ap (λ (x : List Content). get_or x i (content_of piece)) (sym contents) ∙ get_or-map content_of rows i piece (content_of piece) within ∙ ap content_of (sym is)

      inside : i < length (contents_in bytes)
      inside = omega (arith, ap length contents, length-map rows content_of)

      pub row_within : i < length (rows_in bytes)
      row_within = omega (arith, inside, length_contents bytes, rows_counted)

      pub key_of_row : take 24 piece ≡ (get_or (rows_in bytes) i no_row).key
      unfolding rows_in
      key_of_row = ap (λ (row : Content). row.key) (sym content_is) ∙ key_at (contents_in bytes) (cells_in bytes) i (content_of piece) inside

      pub first_of_row : number_at 4 piece 24 ≡ lines_before (rows_in bytes) i
      unfolding rows_in
      first_of_row = ap (λ (row : Content). row.first) (sym content_is) ∙ first_at 0 (line_count bytes) (contents_in bytes) (cells_in bytes) i (content_of piece) (follows bytes accepted) whole inside ∙ omega arith

      pub count_of_row : number_at 4 piece 28 ≡ length (get_or (rows_in bytes) i no_row).lines
      unfolding rows_in
      count_of_row = ap (λ (row : Content). row.count) (sym content_is) ∙ count_at 0 (line_count bytes) (contents_in bytes) (cells_in bytes) i (content_of piece) (follows bytes accepted) whole inside

      pub row_there : (first count : ℕ) → first ≡ number_at 4 piece 24 → count ≡ number_at 4 piece 28 → (i < length (rows_in bytes)) × (take 24 piece ≡ (get_or (rows_in bytes) i no_row).key) × (first ≡ lines_before (rows_in bytes) i) × (count ≡ length (get_or (rows_in bytes) i no_row).lines)
      row_there first count f n = (row_within, key_of_row, f ∙ first_of_row, n ∙ count_of_row)

-- what each call on an open batch needs
pub ruleset all_rows = (its_length_fits, rows_held, few_rows_held)

pub ruleset all_lines = (its_length_fits, lines_signed, lines_held, few_lines_held)

pub ruleset row_by_number = (its_length_fits, row_within)

pub ruleset line_by_number = (its_length_fits, line_is, no_line_is, sign_is)
