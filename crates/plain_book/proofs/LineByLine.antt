-- The rows of a batch, one by one, and the merge that they make.
use Rattle.std.proofs.Common.{◌≡◌, ℕ, zero, suc, ◌+◌, ◌-◌, ◌<◌, ◌≤◌, Bool, true, false, cond, List, [], ◌∷◌, ◌++◌, map, length, get_or, take, filter, Some, None, Option, sym, refl, ap, ◌∙◌, subst, arith}
use Rattle.std.specs.List.{slice_get}
use Rattle.std.proofs.lemmas.List.{append-nil, length-append, length-map, get_or_append_left, get_or-append_right, get_or-map}
use Rattle.std.proofs.lemmas.List.Elements.{filter-append}
use Rattle.std.proofs.ByRecursion.{All-weaker}
use Rattle.refusals.specs.Refusals.{Answer, Accepted, Refused, and_then, is_accepted}
use Rattle.numbers.specs.BigEndian.{Bytes}
use Rattle.keys.specs.Kinds.{Kind, Field}
use Rattle.batches.specs.declared.line.Sign.TheVariants.{Posting}
use Rattle.batches.specs.declared.line.Line.{Line}
use Rattle.batches.specs.declared.rows.OpenRow.{OpenRow}
use Rattle.batches.specs.Layout.{Row, Rising, RowFits, lines_of}
use Rattle.batches.specs.Reading.{rows_in, cell_of, line_of}
use Rattle.batches.specs.Rows.{lines_read, lines_before, no_row}
use Rattle.batches.specs.Opening.{open_answer, opens}
use Rattle.batches.specs.KeyCheck.{kind_and_keys_answer}
use Rattle.batches.proofs.Steps.{few_lines}
use Rattle.batches.proofs.Opened.{counts}
use Rattle.batches.proofs.Refiling.{its_rows_fit}
use Rattle.batches.proofs.Rowwise.{lines_counted}
use Rattle.book.specs.Books.{Sorted}
use Rattle.book.specs.Merging.{Booking, bookings_of, lines_under, line_answer, line_taken, lines_answer, lines_taken, is_posting, posting_lines, merge_answer, check_answer, RowsRise}
use Rattle.book.specs.Entries.{Entries, paged}
use Rattle.book.proofs.Bookings.{KeysRise, accepted_keys}
use Rattle.book.proofs.Paged.{paged_follows}
use Rattle.book.proofs.Merges.{checked_before}
use Rattle.plain_book.specs.Lines.{LawfulKeys, no_booking}

-- lines and then others
answers-++ : (kind : Kind) (at : ℕ) (bs cs : List Booking) (list : Entries) → lines_answer kind paged at (bs ++ cs) list ≡ and_then (lines_answer kind paged at bs list) (lines_answer kind paged (at + length bs) cs list)
answers-++ kind at [] cs list = let none : at ≡ at + 0 = omega arith in ap (λ (k : ℕ). lines_answer kind paged k cs list) none
answers-++ kind at (b ∷ bs) cs list = go (line_answer kind paged at b list) (answers-++ kind (suc at) bs cs list)
  where
    next : suc at + length bs ≡ at + suc (length bs)
    next = omega arith

    go : (a : Answer Unit) → lines_answer kind paged (suc at) (bs ++ cs) list ≡ and_then (lines_answer kind paged (suc at) bs list) (lines_answer kind paged (suc at + length bs) cs list)
        → and_then a (lines_answer kind paged (suc at) (bs ++ cs) list) ≡ and_then (and_then a (lines_answer kind paged (suc at) bs list)) (lines_answer kind paged (at + suc (length bs)) cs list)
    go (Accepted met) ih = ih ∙ ap (λ (k : ℕ). and_then (lines_answer kind paged (suc at) bs list) (lines_answer kind paged k cs list)) next
    go (Refused number place) ih = refl

taken-++ : (kind : Kind) (bs cs : List Booking) (list : Entries) → lines_taken kind paged (bs ++ cs) list ≡ lines_taken kind paged cs (lines_taken kind paged bs list)
taken-++ kind [] cs list = refl
taken-++ kind (b ∷ bs) cs list = taken-++ kind bs cs (line_taken kind paged b list)

-- one more row
pub row_counted : (row : OpenRow) (first then_first : ℕ) → then_first ≡ first + row.count → then_first ≡ first + length (lines_read row)
row_counted row first then_first e = omega (arith, e, row.counted, length-map (map cell_of row.pieces.now) line_of, length-map row.pieces.now cell_of)

module _ (kind : Kind) (row : Row) (left rest : List Row) (next : left ≡ row ∷ rest) where
  pub lawful_step : LawfulKeys kind left → (kind.lawful row.key ≡ true) × LawfulKeys kind rest
  lawful_step lawful = subst (LawfulKeys kind) next lawful

  pub few_step : (first : ℕ) → first + length (lines_of left) ≤ 1024 → first + length row.lines + length (lines_of rest) ≤ 1024
  few_step first few = omega (arith, ap (λ (rows : List Row). length (lines_of rows)) next, length-append row.lines (lines_of rest))

  pub answer_step : (first : ℕ) (list : Entries) (here : Answer Unit) → here ≡ lines_answer kind paged first (bookings_of row) list
      → lines_answer kind paged first (lines_under left) list ≡ and_then here (lines_answer kind paged (first + length row.lines) (lines_under rest) list)
  answer_step first list here e =
      ap (λ (rows : List Row). lines_answer kind paged first (lines_under rows) list) next
      ∙ (answers-++ kind first (bookings_of row) (lines_under rest) list
      ∙ (ap (λ (k : ℕ). and_then (lines_answer kind paged first (bookings_of row) list) (lines_answer kind paged (first + k) (lines_under rest) list)) (length-map row.lines _)
      ∙ ap (λ (a : Answer Unit). and_then a (lines_answer kind paged (first + length row.lines) (lines_under rest) list)) (sym e)))

  pub taken_step : (list after : Entries) → after ≡ lines_taken kind paged (bookings_of row) list → lines_taken kind paged (lines_under left) list ≡ lines_taken kind paged (lines_under rest) after
  taken_step list after e =
      ap (λ (rows : List Row). lines_taken kind paged (lines_under rows) list) next
      ∙ (taken-++ kind (bookings_of row) (lines_under rest) list ∙ ap (lines_taken kind paged (lines_under rest)) (sym e))

-- the lines that post
abbrev pub posts : Line → Bool
posts line = is_posting line.sign

posting-++ : (key : Field) (lines : List Line) (bs : List Booking) → posting_lines (bookings_of (record { key = key; lines = lines }) ++ bs) ≡ length (filter posts lines) + posting_lines bs
posting-++ key [] bs = omega arith
posting-++ key (line ∷ lines) bs = go (posts line) (posting-++ key lines bs)
  where
    go : (b : Bool) → posting_lines (bookings_of (record { key = key; lines = lines }) ++ bs) ≡ length (filter posts lines) + posting_lines bs
        → cond b 1 0 + posting_lines (bookings_of (record { key = key; lines = lines }) ++ bs) ≡ length (cond b (line ∷ filter posts lines) (filter posts lines)) + posting_lines bs
    go true ih = omega arith
    go false ih = omega arith

pub posting_counted : (rows : List Row) → length (filter posts (lines_of rows)) ≡ posting_lines (lines_under rows)
posting_counted [] = refl
posting_counted (row ∷ rows) =
    ap length (filter-append posts row.lines (lines_of rows))
    ∙ omega (arith, length-append (filter posts row.lines) (filter posts (lines_of rows)), posting_counted rows, posting-++ row.key row.lines (lines_under rows))

-- keys that were accepted are lawful
pub keys_lawful : (kind : Kind) (code : ℕ) (rows : List Row) → kind_and_keys_answer kind code rows ≡ Accepted tt → LawfulKeys kind rows
keys_lawful kind code rows e = lawful None rows (accepted_keys kind code rows e).1
  where
    lawful : (before : Option Field) (rows : List Row) → KeysRise kind before rows → LawfulKeys kind rows
    lawful before [] k = tt
    lawful before (row ∷ rows) k = (k.0, lawful (Some row.key) rows k.2)

-- a merge from its check and its lines
module _ (kind : Kind) (free code : ℕ) (rows : List Row) (list : Entries) where
  pub merge_refused : (number place : ℕ) → RowsRise rows → Sorted kind list → Refused number place ≡ check_answer kind paged free code rows list → merge_answer kind paged free code rows list ≡ Refused number place
  merge_refused number place r s e =
      checked_before paged paged_follows kind free code rows list r s ∙ ap (λ (a : Answer Unit). and_then a (Accepted (lines_taken kind paged (lines_under rows) list))) (sym e)

  pub merge_accepted : (after : Entries) → RowsRise rows → Sorted kind list → Accepted tt ≡ check_answer kind paged free code rows list → after ≡ lines_taken kind paged (lines_under rows) list → merge_answer kind paged free code rows list ≡ Accepted after
  merge_accepted after r s e taken =
      checked_before paged paged_follows kind free code rows list r s
      ∙ (ap (λ (a : Answer Unit). and_then a (Accepted (lines_taken kind paged (lines_under rows) list))) (sym e) ∙ ap Accepted (sym taken))

-- the rows of an open batch rise, and their lines are few
is_accepted_alone : (a : Answer Unit) → is_accepted a ≡ true → a ≡ Accepted tt
is_accepted_alone (Accepted tt) e = refl
is_accepted_alone (Refused number place) e = let z : ◌≡◌ {A = ℕ} 0 1 = cc in absurd (omega arith)

pub open_rows_rise : (bytes : List ℕ) → Bytes bytes → opens bytes ≡ true → RowsRise (rows_in bytes)
open_rows_rise bytes real opened =
    All-weaker RowFits (λ (row : Row). Rising 0 row.lines) (λ row fits. fits.numbers_rise_from_1) (rows_in bytes) (its_rows_fit bytes real (is_accepted_alone (open_answer bytes) opened)).each_row_fits

pub lines_few : (bytes : List ℕ) → opens bytes ≡ true → length (lines_of (rows_in bytes)) ≤ 1024
lines_few bytes opened = omega (arith, lines_counted bytes opened, few_lines bytes (counts bytes (is_accepted_alone (open_answer bytes) opened)))

-- a line by its number, in the row that has it
abbrev no_line : Line
no_line = record { sign = Posting; number = 0 }

pub nth_some : {X : Type 0} (xs : List X) (j : ℕ) (x d : X) → Some x ≡ slice_get xs j → (j < length xs) × (get_or xs j d ≡ x)
nth_some [] j x d e = let z : ◌≡◌ {A = ℕ} 0 1 = cc in absurd (omega arith)
nth_some (y ∷ ys) zero x d e = (omega arith, cc)
nth_some (y ∷ ys) (suc j) x d e = let ih = nth_some ys j x d e in (omega (arith, ih.0), ih.1)

abbrev under : Field → Line → Booking
under key line = record { key = key; sign = line.sign; number = line.number }

pub under_length : (rows : List Row) → length (lines_under rows) ≡ length (lines_of rows)
under_length [] = refl
under_length (row ∷ rows) =
    length-append (bookings_of row) (lines_under rows)
    ∙ omega (arith, under_length rows, length-append row.lines (lines_of rows), length-map row.lines (under row.key))

-- a line in the row that has it
line_in_row : (rows : List Row) (i j : ℕ) → i < length rows → lines_before rows i ≤ j → j < lines_before rows (suc i) → get_or (lines_under rows) j no_booking ≡ under (get_or rows i no_row).key (get_or (lines_of rows) j no_line)
line_in_row [] i j h low high = absurd (omega arith)
line_in_row (row ∷ rows) zero j h low high =
    let here : j < length row.lines = omega (arith, ap length (append-nil row.lines)) in
    get_or_append_left (bookings_of row) (lines_under rows) no_booking j (omega (arith, length-map row.lines (under row.key)))
    ∙ (get_or-map (under row.key) row.lines j no_line no_booking here ∙ ap (under row.key) (sym (get_or_append_left row.lines (lines_of rows) no_line j here)))
line_in_row (row ∷ rows) (suc i) j h low high =
    let n = length row.lines in
    let first = length-append row.lines (lines_of (take i rows)) in
    let next = length-append row.lines (lines_of (take (suc i) rows)) in
    get_or-append_right (bookings_of row) (lines_under rows) n j no_booking (length-map row.lines (under row.key)) (omega arith)
    ∙ (line_in_row rows i (j - n) (omega arith) (omega arith) (omega arith) ∙ ap (under (get_or rows i no_row).key) (sym (get_or-append_right row.lines (lines_of rows) n j no_line refl (omega arith))))

pub booked_line : (rows : List Row) (i j : ℕ) (key : Field) (line : Line) → i < length rows → lines_before rows i ≤ j → j < lines_before rows (i + 1) → key ≡ (get_or rows i no_row).key → Some line ≡ slice_get (lines_of rows) j
    → (j < length (lines_under rows)) × (get_or (lines_under rows) j no_booking ≡ record { key = key; sign = line.sign; number = line.number })
booked_line rows i j key line h low high k e =
    let one : i + 1 ≡ suc i = omega arith in
    let there = nth_some (lines_of rows) j line no_line e in (
      omega (arith, there.0, under_length rows),
      line_in_row rows i j h low (subst (λ (m : ℕ). j < lines_before rows m) one high) ∙ (ap (λ (f : Field). under f (get_or (lines_of rows) j no_line)) (sym k) ∙ ap (under key) there.1),
    )
