-- The text of a batch of postings: it is that of its book, and 364 bytes hold it. Assumes nothing.
use Rattle.std.proofs.Common.{◌≡◌, ℕ, zero, suc, ◌+◌, ◌-◌, ◌*◌, ◌^◌, ◌<◌, ◌≤◌, List, [], ◌∷◌, ◌++◌, map, reverse, length, get_or, take, decimal, sym, refl, ap, ◌∙◌, subst, mul-suc, mul-add, arith, lit<}
use mathlib.Core.List.{reverse_aux}
use Rattle.std.specs.List.{flat_map, AllByRecursion}
use Rattle.std.proofs.lemmas.Fmt.{decimal_digit, length-decimal-le}
use Rattle.std.proofs.lemmas.List.{append_assoc, append-nil, map-append, reverse-append, length-append, length-map, length-reverse, get_or-reverse, get_or-map, get_or_append_left, get_or-append-add}
use Rattle.refusals.specs.Refusals.{Accepted}
use Rattle.batches.specs.declared.line.Sign.TheVariants.{Posting}
use Rattle.batches.specs.declared.line.Line.{Line}
use Rattle.batches.specs.Layout.{Row, lines_of, Rising, RowFits}
use Rattle.batches.specs.Rows.{lines_before, no_row}
use Rattle.book.specs.Looking.{Listed, rows_under}
use Rattle.book.specs.Laws.{as_held}
use Rattle.book_listing.specs.Text.{text_line, until_zero, all_rows, row_text, text_of}
use Rattle.book_listing.specs.Writing.{postings_text, batch_text}
use Rattle.book_listing.proofs.Cutting.{until_short}

abbrev pub number_of_line : Line → ℕ
number_of_line line = line.number

abbrev pub no_line : Line
no_line = record { sign = Posting; number = 0 }

abbrev pub no_listed : Listed
no_listed = record { key = []; posting = 0 }

joined_append : {X A : Type 0} (f : X → List A) (xs ys : List X) → flat_map f (xs ++ ys) ≡ flat_map f xs ++ flat_map f ys
joined_append f [] ys = refl
joined_append f (x ∷ xs) ys = ap (λ zs. f x ++ zs) (joined_append f xs ys) ∙ sym (append_assoc (f x) (flat_map f xs) (flat_map f ys))

-- the rows of a listing that a batch row gives
pub length_rows : (row : Row) → length (rows_under (as_held row)) ≡ length row.lines
length_rows row =
    length-map (reverse (map number_of_line row.lines)) (λ (n : ℕ). record { key = row.key; posting = n })
    ∙ length-reverse (map number_of_line row.lines)
    ∙ length-map row.lines number_of_line

rows_counted : (rows : List Row) → length (all_rows (map as_held rows)) ≡ length (lines_of rows)
rows_counted [] = refl
rows_counted (row ∷ rows) =
    omega (arith, length-append (rows_under (as_held row)) (all_rows (map as_held rows)), length-append row.lines (lines_of rows), length_rows row, rows_counted rows)

rows_text : (rows : List Row) → flat_map row_text (all_rows (map as_held rows)) ≡ flat_map postings_text rows
unfolding postings_text
rows_text [] = refl
rows_text (row ∷ rows) = joined_append row_text (rows_under (as_held row)) (all_rows (map as_held rows)) ∙ ap (λ (xs : List ℕ). flat_map row_text (rows_under (as_held row)) ++ xs) (rows_text rows)

pub text_of_rows : (rows : List Row) → text_of (Accepted (map as_held rows)) ≡ batch_text rows
unfolding batch_text
text_of_rows rows =
    ap (λ (n : ℕ). text_line (decimal 0) n ++ flat_map row_text (all_rows (map as_held rows))) (rows_counted rows)
    ∙ ap (λ (xs : List ℕ). text_line (decimal 0) (length (lines_of rows)) ++ xs) (rows_text rows)

-- row k of those that a batch row gives has the number of its line m, where k and m count from its two ends
pub listed_at : (row : Row) (k m : ℕ) → k + m + 1 ≡ length row.lines → get_or (rows_under (as_held row)) k no_listed ≡ record { key = row.key; posting = (get_or row.lines m no_line).number }
listed_at row k m e =
    let numbers = map number_of_line row.lines in
    let long = length-map row.lines number_of_line in
    let there : k < length (reverse numbers) = omega (arith, length-reverse numbers) in
    let within : k < length numbers = omega arith in
    let place : length numbers - 1 - k ≡ m = omega arith in
    let inside : m < length row.lines = omega arith in
    get_or-map (λ (n : ℕ). record { key = row.key; posting = n }) (reverse numbers) k 0 no_listed there
    ∙ ap (λ (n : ℕ). record { key = row.key; posting = n })
    (get_or-reverse numbers k 0 within ∙ ap (λ (i : ℕ). get_or numbers i 0) place ∙ get_or-map number_of_line row.lines m no_line 0 inside)

-- line m of row i in the file
pub line_of_row : (rows : List Row) (i m : ℕ) → i < length rows → m < length (get_or rows i no_row).lines → get_or (lines_of rows) (lines_before rows i + m) no_line ≡ get_or (get_or rows i no_row).lines m no_line
line_of_row [] i m h k = absurd (omega arith)
line_of_row (row ∷ rows) zero m h k =
    let e : 0 + m ≡ m = omega arith in
    ap (λ (n : ℕ). get_or (row.lines ++ lines_of rows) n no_line) e ∙ get_or_append_left row.lines (lines_of rows) no_line m k
line_of_row (row ∷ rows) (suc i) m h k =
    let e : length (row.lines ++ lines_of (take i rows)) + m ≡ length row.lines + (lines_before rows i + m) = omega (arith, length-append row.lines (lines_of (take i rows))) in
    ap (λ (n : ℕ). get_or (row.lines ++ lines_of rows) n no_line) e
    ∙ get_or-append-add row.lines (lines_of rows) (lines_before rows i + m) no_line
    ∙ line_of_row rows i m (omega arith) k

-- how long a row's text is
short_line : (key : List ℕ) (n : ℕ) → length key ≡ 24 → n < 2 ^ 63 → length (text_line (until_zero key) n) ≤ 45
short_line key n long small =
    let big : 2 ^ 63 < 10 ^ 19 = lit< tt in
    let wide : 2 ^ 63 < 2 ^ 64 = lit< tt in
    let figures : length (decimal n) ≤ 19 = length-decimal-le 19 n (lit< tt) (omega arith) (omega arith) in
    omega (arith, until_short key, length-append (until_zero key) (32 ∷ (decimal n ++ (10 ∷ []))), length-append (decimal n) (10 ∷ []))

short_rows : (key : List ℕ) (ns : List ℕ) → length key ≡ 24 → AllByRecursion (λ (n : ℕ). n < 2 ^ 63) ns → length (flat_map row_text (map (λ (n : ℕ). record { key = key; posting = n }) ns)) ≤ 45 * length ns
short_rows key [] long small = omega arith
short_rows key (n ∷ ns) long small =
    omega (arith, short_line key n long small.0, short_rows key ns long small.1, length-append (text_line (until_zero key) n) (flat_map row_text (map (λ (m : ℕ). record { key = key; posting = m }) ns)), mul-suc 45 (length ns))

all_reverse : (P : ℕ → Type 0) (xs ys : List ℕ) → AllByRecursion P xs → AllByRecursion P ys → AllByRecursion P (reverse_aux xs ys)
all_reverse P [] ys a b = b
all_reverse P (x ∷ xs) ys a b = all_reverse P xs (x ∷ ys) a.1 (a.0, b)

all_small : (low : ℕ) (lines : List Line) → Rising low lines → AllByRecursion (λ (n : ℕ). n < 2 ^ 63) (map number_of_line lines)
all_small low [] r = tt
all_small low (line ∷ lines) r = (r.1, all_small line.number lines r.2)

short_postings : (row : Row) → RowFits row → length (postings_text row) ≤ 45 * length row.lines
unfolding postings_text
short_postings row fits =
    let numbers = map number_of_line row.lines in
    let all = all_reverse (λ (n : ℕ). n < 2 ^ 63) numbers [] (all_small 0 row.lines fits.numbers_rise_from_1) tt in
    let long : length (reverse numbers) ≡ length row.lines = length-reverse numbers ∙ length-map row.lines number_of_line in
    subst (λ (n : ℕ). length (flat_map row_text (rows_under (as_held row))) ≤ 45 * n) long (short_rows row.key (reverse numbers) fits.key_is_24_bytes all)

short_batch : (rows : List Row) → AllByRecursion RowFits rows → length (flat_map postings_text rows) ≤ 45 * length (lines_of rows)
short_batch [] fits = omega arith
short_batch (row ∷ rows) fits =
    omega (arith, short_postings row fits.0, short_batch rows fits.1, length-append (postings_text row) (flat_map postings_text rows), length-append row.lines (lines_of rows), mul-add 45 (length row.lines) (length (lines_of rows)))

pub short_first : (n : ℕ) → n < 10 → length (text_line (decimal 0) n) ≡ 4
short_first n h =
    let zero' = ap length (decimal_digit 0 (lit< tt)) in
    let one = ap length (decimal_digit n h) in
    omega (arith, length-append (decimal 0) (32 ∷ (decimal n ++ (10 ∷ []))), length-append (decimal n) (10 ∷ []))

pub fits_364 : (rows : List Row) → AllByRecursion RowFits rows → length (lines_of rows) ≤ 8 → length (batch_text rows) ≤ 364
unfolding batch_text
fits_364 rows fits few =
    omega (arith, short_first (length (lines_of rows)) (omega arith), short_batch rows fits, length-append (text_line (decimal 0) (length (lines_of rows))) (flat_map postings_text rows))

-- a refusal's line
pub short_refusal : (m n : ℕ) → m < 256 → n < 2 ^ 64 → length (text_line (decimal m) n) ≤ 364
short_refusal m n small fits =
    let big : 2 ^ 64 < 10 ^ 20 = lit< tt in
    let wide : 256 < 2 ^ 64 = lit< tt in
    let a : length (decimal m) ≤ 3 = length-decimal-le 3 m (lit< tt) (omega arith) (omega arith) in
    let b : length (decimal n) ≤ 20 = length-decimal-le 20 n (lit< tt) (omega arith) fits in
    omega (arith, length-append (decimal m) (32 ∷ (decimal n ++ (10 ∷ []))), length-append (decimal n) (10 ∷ []))

-- the last line is listed first
pub last_line_first : (key : List ℕ) (lines : List Line) (line : Line) → postings_text (record { key = key; lines = lines ++ line ∷ [] }) ≡ text_line (until_zero key) line.number ++ postings_text (record { key = key; lines = lines })
unfolding postings_text
last_line_first key lines line = rw (map-append number_of_line lines (line ∷ []), reverse-append (map number_of_line lines) (line.number ∷ []))

pub none_listed : (key : List ℕ) → postings_text (record { key = key; lines = [] }) ≡ []
unfolding postings_text
none_listed key = refl

-- a text, and behind it the rows of the lines that are left
module _ (key : List ℕ) (before after : List Line) (line : Line) (is : before ≡ after ++ line ∷ []) (text whole : List ℕ) (same : text ++ postings_text (record { key = key; lines = before }) ≡ whole) where
  pub one_added : (text ++ text_line (until_zero key) line.number) ++ postings_text (record { key = key; lines = after }) ≡ whole
  one_added =
      append_assoc text (text_line (until_zero key) line.number) (postings_text (record { key = key; lines = after }))
      ∙ ap (λ (xs : List ℕ). text ++ xs) (sym (last_line_first key after line) ∙ ap (λ (lines : List Line). postings_text (record { key = key; lines = lines })) (sym is))
      ∙ same

  pub one_fits : length text + length (text_line (until_zero key) line.number) ≤ length whole
  one_fits =
      omega (arith, ap length one_added, length-append (text ++ text_line (until_zero key) line.number) (postings_text (record { key = key; lines = after })), length-append text (text_line (until_zero key) line.number))

pub none_left : (key : List ℕ) (before : List Line) → before ≡ [] → (text whole : List ℕ) → text ++ postings_text (record { key = key; lines = before }) ≡ whole → text ≡ whole
none_left key before is text whole same =
    sym (append-nil text)
    ∙ ap (λ (xs : List ℕ). text ++ xs) (sym (none_listed key) ∙ ap (λ (lines : List Line). postings_text (record { key = key; lines = lines })) (sym is))
    ∙ same
