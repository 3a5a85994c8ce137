-- What an input is answered, step by step. Assumes nothing.
use Rattle.std.proofs.Common.{◌≡◌, ℕ, suc, ◌+◌, ◌*◌, ◌<◌, ◌≤◌, Bool, true, false, cond, not, leb, ltb, List, [], ◌∷◌, ◌++◌, map, length, Some, None, decimal, sym, refl, ap, ◌∙◌, arith}
use Rattle.std.specs.List.{position, prefix_len}
use Rattle.std.proofs.ByRecursion.{All-weaker}
use Rattle.std.proofs.lemmas.List.{length-append, length-map}
use Rattle.std.proofs.lemmas.Bool.{le-leb, lt-leb, leb-true, ltb-true, ltb-false}
use Rattle.refusals.specs.Refusals.{Answer, Accepted, Refused, wants, and_then, is_accepted}
use Rattle.refusals.proofs.Answering.{never_both, met_from_accepted, first_accepted, rest_accepted}
use Rattle.numbers.specs.BigEndian.{Bytes}
use Rattle.keys.specs.BuiltIn.{word_kind}
use Rattle.batches.specs.declared.line.Sign.{Sign}
use Rattle.batches.specs.declared.line.Sign.TheVariants.{Posting, Cancelling}
use Rattle.batches.specs.declared.line.Line.{Line}
use Rattle.batches.specs.Layout.{Row, lines_of, RowFits, FileFits}
use Rattle.batches.specs.Reading.{kind_code, rows_in}
use Rattle.batches.specs.Opening.{open_answer, opens}
use Rattle.batches.specs.KeyCheck.{kind_and_keys_answer}
use Rattle.batches.proofs.Refiling.{its_rows_fit}
use Rattle.book.specs.Books.{Book, plain}
use Rattle.book.specs.Merging.{Booking, bookings_of, lines_under, is_posting, posting_lines, pages_answer, merge_answer}
use Rattle.book.specs.Laws.{no_cancelling, as_held}
use Rattle.book.proofs.Rows.{merged_into_empty}
use Rattle.book_listing.specs.Text.{booklist_answer, text_line, text_of, booklist_text}
use Rattle.book_listing.specs.Writing.{verdict, on_empty, batch_text}
use Rattle.book_listing.proofs.Texts.{text_of_rows, fits_364}

-- the first cancelling line, over the lines of the file
abbrev pub cancel_free : (at : ℕ) → List Line → Answer Unit
cancel_free at [] = Accepted tt
cancel_free at (line ∷ lines) = and_then (wants (is_posting line.sign) 7 at) (cancel_free (suc at) lines)

under_lines : (key : List ℕ) (lines : List Line) (bs : List Booking) (rest : List Line) → ((at : ℕ) → no_cancelling at bs ≡ cancel_free at rest) → (at : ℕ)
    → no_cancelling at (bookings_of (record { key = key; lines = lines }) ++ bs) ≡ cancel_free at (lines ++ rest)
under_lines key [] bs rest same at = same at
under_lines key (line ∷ lines) bs rest same at = ap (and_then (wants (is_posting line.sign) 7 at)) (under_lines key lines bs rest same (suc at))

pub same_lines : (rows : List Row) (at : ℕ) → no_cancelling at (lines_under rows) ≡ cancel_free at (lines_of rows)
same_lines [] at = refl
same_lines (row ∷ rows) at = under_lines row.key row.lines (lines_under rows) (lines_of rows) (same_lines rows) at

-- how many lines post before the first that cancels
abbrev posting_front : List Line → ℕ
posting_front lines = prefix_len (λ (line : Line). not (not (is_posting line.sign))) lines

refused_there : (at : ℕ) (lines : List Line) → posting_front lines < length lines → cancel_free at lines ≡ Refused 7 (at + posting_front lines)
refused_there at [] h = absurd (omega arith)
refused_there at (line ∷ lines) h = go line.sign h (λ k. refused_there (suc at) lines k)
  where
    go : (sign : Sign) → posting_front (record { sign = sign; number = line.number } ∷ lines) < suc (length lines) → (posting_front lines < length lines → cancel_free (suc at) lines ≡ Refused 7 (suc at + posting_front lines)) → cancel_free at (record { sign = sign; number = line.number } ∷ lines) ≡ Refused 7 (at + posting_front (record { sign = sign; number = line.number } ∷ lines))
    go Posting k ih = ih (omega arith) ∙ ap (Refused 7) (omega arith)
    go Cancelling k ih = ap (Refused 7) (omega arith)

taken_all : (at : ℕ) (lines : List Line) → length lines ≤ posting_front lines → cancel_free at lines ≡ Accepted tt
taken_all at [] h = refl
taken_all at (line ∷ lines) h = go line.sign h (λ k. taken_all (suc at) lines k)
  where
    go : (sign : Sign) → suc (length lines) ≤ posting_front (record { sign = sign; number = line.number } ∷ lines) → (length lines ≤ posting_front lines → cancel_free (suc at) lines ≡ Accepted tt) → cancel_free at (record { sign = sign; number = line.number } ∷ lines) ≡ Accepted tt
    go Posting k ih = ih (omega arith)
    go Cancelling k ih = absurd (omega arith)

module _ (rows : List Row) where
  abbrev lines : List Line
  lines = lines_of rows

  pub first_cancelling : (j : ℕ) → position (λ (line : Line). not (is_posting line.sign)) lines ≡ Some j → Refused 7 j ≡ no_cancelling 0 (lines_under rows)
  first_cancelling j is = go (ltb (posting_front lines) (length lines)) refl is
    where
      go : (t : Bool) → ltb (posting_front lines) (length lines) ≡ t → cond t (Some (posting_front lines)) None ≡ Some j → Refused 7 j ≡ no_cancelling 0 (lines_under rows)
      go true h e =
          let n : posting_front lines ≡ j = cc in
          sym (same_lines rows 0 ∙ refused_there 0 lines (ltb-true (posting_front lines) (length lines) h) ∙ ap (Refused 7) (omega arith))
      go false h e = absurd cc

  pub none_cancelling : position (λ (line : Line). not (is_posting line.sign)) lines ≡ None → Accepted tt ≡ no_cancelling 0 (lines_under rows)
  none_cancelling is = go (ltb (posting_front lines) (length lines)) refl is
    where
      go : (t : Bool) → ltb (posting_front lines) (length lines) ≡ t → cond t (Some (posting_front lines)) None ≡ None → Accepted tt ≡ no_cancelling 0 (lines_under rows)
      go true h e = absurd cc
      go false h e = sym (same_lines rows 0 ∙ taken_all 0 lines (ltb-false (posting_front lines) (length lines) h))

-- where no line cancels, each posts
all_counted : (at : ℕ) (bs : List Booking) → no_cancelling at bs ≡ Accepted tt → posting_lines bs ≡ length bs
all_counted at [] e = refl
all_counted at (b ∷ bs) e = go b.sign e (λ f. all_counted (suc at) bs f)
  where
    go : (sign : Sign) → and_then (wants (is_posting sign) 7 at) (no_cancelling (suc at) bs) ≡ Accepted tt → (no_cancelling (suc at) bs ≡ Accepted tt → posting_lines bs ≡ length bs) → cond (is_posting sign) 1 0 + posting_lines bs ≡ suc (length bs)
    go Posting e ih = omega (arith, ih e)
    go Cancelling e ih = absurd (never_both tt 7 at (sym e))

length_under : (rows : List Row) → length (lines_under rows) ≡ length (lines_of rows)
length_under [] = refl
length_under (row ∷ rows) =
    omega (arith, length-append (bookings_of row) (lines_under rows), length-append row.lines (lines_of rows), length_under rows, length-map {B = Booking} row.lines (λ (line : Line). record { key = row.key; sign = line.sign; number = line.number }))

pub posting_count : (rows : List Row) → no_cancelling 0 (lines_under rows) ≡ Accepted tt → posting_lines (lines_under rows) ≡ length (lines_of rows)
posting_count rows e = all_counted 0 (lines_under rows) e ∙ length_under rows

-- the answer to an open batch, part by part
module _ (code : ℕ) (rows : List Row) where
  pub bad_keys : (n p : ℕ) → Refused n p ≡ kind_and_keys_answer word_kind code rows → Refused n p ≡ on_empty code rows
  bad_keys n p e = ap (λ (a : Answer Unit). and_then a (and_then (no_cancelling 0 (lines_under rows)) (pages_answer 62 (posting_lines (lines_under rows))))) e

  module _ (keys : Accepted tt ≡ kind_and_keys_answer word_kind code rows) where
    good_keys : on_empty code rows ≡ and_then (no_cancelling 0 (lines_under rows)) (pages_answer 62 (posting_lines (lines_under rows)))
    good_keys = ap (λ (a : Answer Unit). and_then a (and_then (no_cancelling 0 (lines_under rows)) (pages_answer 62 (posting_lines (lines_under rows))))) (sym keys)

    pub bad_line : (n p : ℕ) → Refused n p ≡ no_cancelling 0 (lines_under rows) → Refused n p ≡ on_empty code rows
    bad_line n p e = ap (λ (a : Answer Unit). and_then a (pages_answer 62 (posting_lines (lines_under rows)))) e ∙ sym good_keys

    module _ (lines : Accepted tt ≡ no_cancelling 0 (lines_under rows)) where
      good_lines : on_empty code rows ≡ pages_answer 62 (length (lines_of rows))
      good_lines =
          good_keys
          ∙ ap (λ (a : Answer Unit). and_then a (pages_answer 62 (posting_lines (lines_under rows)))) (sym lines)
          ∙ ap (pages_answer 62) (posting_count rows (sym lines))

      pub too_many : 62 < 7 * length (lines_of rows) → Refused 8 0 ≡ on_empty code rows
      too_many h = sym (good_lines ∙ ap (λ (t : Bool). wants t 8 0) (lt-leb (7 * length (lines_of rows)) 62 h))

      pub all_well : 7 * length (lines_of rows) ≤ 62 → Accepted tt ≡ on_empty code rows
      all_well h = sym (good_lines ∙ ap (λ (t : Bool). wants t 8 0) (le-leb (7 * length (lines_of rows)) 62 h))

-- an accepted batch has few lines
few_lines : (code : ℕ) (rows : List Row) → on_empty code rows ≡ Accepted tt → length (lines_of rows) ≤ 8
few_lines code rows e =
    let keys = kind_and_keys_answer word_kind code rows in
    let lines = no_cancelling 0 (lines_under rows) in
    let pages = pages_answer 62 (posting_lines (lines_under rows)) in
    let second = rest_accepted keys (and_then lines pages) tt e in
    let third = rest_accepted lines pages tt second in
    let met = leb-true (7 * posting_lines (lines_under rows)) 62 (met_from_accepted (leb (7 * posting_lines (lines_under rows)) 62) 8 0 third) in
    omega (arith, posting_count rows (first_accepted lines pages tt second))

verdict_then : (first : Answer Unit) (rest : Answer Book) → verdict (and_then first rest) ≡ and_then first (verdict rest)
verdict_then (Accepted tt) rest = refl
verdict_then (Refused n p) rest = refl

verdict_last : (last : Answer Unit) (book : Book) → verdict (and_then last (Accepted book)) ≡ last
verdict_last (Accepted tt) book = refl
verdict_last (Refused n p) book = refl

module _ (input : List ℕ) where
  merged : Answer Book
  merged = merge_answer word_kind plain 62 (kind_code input) (rows_in input) []

  pub too_long : 16384 < length input → Refused 2 3 ≡ verdict (booklist_answer input)
  unfolding booklist_answer merged
  too_long h = sym (ap (λ (t : Bool). verdict (and_then (wants t 2 3) (and_then (open_answer input) merged))) (lt-leb (length input) 16384 h))

  module _ (fits : length input ≤ 16384) where
    looked_at : booklist_answer input ≡ and_then (open_answer input) merged
    unfolding booklist_answer merged
    looked_at = ap (λ (t : Bool). and_then (wants t 2 3) (and_then (open_answer input) merged)) (le-leb (length input) 16384 fits)

    pub not_opened : (n p : ℕ) → Refused n p ≡ open_answer input → Refused n p ≡ verdict (booklist_answer input)
    not_opened n p e = sym (ap verdict (looked_at ∙ ap (λ (a : Answer Unit). and_then a merged) (sym e)))

    module _ (real : Bytes input) (opened : open_answer input ≡ Accepted tt) where
      file : FileFits (kind_code input) (rows_in input)
      file = its_rows_fit input real opened

      abbrev rows : List Row
      rows = rows_in input

      filled_in : booklist_answer input ≡ and_then (kind_and_keys_answer word_kind (kind_code input) rows) (and_then (no_cancelling 0 (lines_under rows)) (and_then (pages_answer 62 (posting_lines (lines_under rows))) (Accepted (map as_held rows))))
      unfolding merged
      filled_in =
          looked_at
          ∙ ap (λ (a : Answer Unit). and_then a merged) opened
          ∙ merged_into_empty word_kind 62 (kind_code input) rows (All-weaker RowFits _ (λ (row : Row) f. f.numbers_rise_from_1) rows file.each_row_fits) (All-weaker RowFits _ (λ (row : Row) f. f.has_a_line) rows file.each_row_fits)

      pub judged_open : verdict (booklist_answer input) ≡ on_empty (kind_code input) rows
      judged_open =
          let keys = kind_and_keys_answer word_kind (kind_code input) rows in
          let lines = no_cancelling 0 (lines_under rows) in
          let pages = pages_answer 62 (posting_lines (lines_under rows)) in
          ap verdict filled_in
          ∙ verdict_then keys (and_then lines (and_then pages (Accepted (map as_held rows))))
          ∙ ap (and_then keys) (verdict_then lines (and_then pages (Accepted (map as_held rows))) ∙ ap (and_then lines) (verdict_last pages (map as_held rows)))

      pub judged_batch : (bytes : List ℕ) → bytes ≡ input → (answer : Answer Unit) → answer ≡ on_empty (kind_code bytes) (rows_in bytes) → answer ≡ verdict (booklist_answer input)
      judged_batch bytes same answer e = e ∙ ap (λ (b : List ℕ). on_empty (kind_code b) (rows_in b)) same ∙ sym judged_open

      -- accepted, the book is the rows
      pub all_filled : on_empty (kind_code input) rows ≡ Accepted tt → booklist_answer input ≡ Accepted (map as_held rows)
      all_filled e =
          let keys = kind_and_keys_answer word_kind (kind_code input) rows in
          let lines = no_cancelling 0 (lines_under rows) in
          let pages = pages_answer 62 (posting_lines (lines_under rows)) in
          let second = rest_accepted keys (and_then lines pages) tt e in
          filled_in
          ∙ ap (λ (a : Answer Unit). and_then a (and_then lines (and_then pages (Accepted (map as_held rows))))) (first_accepted keys (and_then lines pages) tt e)
          ∙ ap (λ (a : Answer Unit). and_then a (and_then pages (Accepted (map as_held rows)))) (first_accepted lines pages tt second)
          ∙ ap (λ (a : Answer Unit). and_then a (Accepted (map as_held rows))) (rest_accepted lines pages tt second)

-- an input that is accepted: it fits, opens, and its text is that of its rows
pub record Taken (input : List ℕ) : Type 0 where
  pub opened : opens input ≡ true
  pub text : booklist_text input ≡ batch_text (rows_in input)
  pub short : length (batch_text (rows_in input)) ≤ 364

verdict_accepted : (answer : Answer Book) (first : Answer Unit) (rest : Answer Book) → answer ≡ and_then first rest → Accepted tt ≡ verdict answer → first ≡ Accepted tt
verdict_accepted answer (Accepted tt) rest e a = refl
verdict_accepted answer (Refused n p) rest e a = absurd (never_both tt n p (a ∙ ap verdict e))

pub taken : (input : List ℕ) → Bytes input → Accepted tt ≡ verdict (booklist_answer input) → Taken input
unfolding booklist_answer booklist_text
taken input real a =
    let rest = and_then (open_answer input) (merge_answer word_kind plain 62 (kind_code input) (rows_in input) []) in
    let fits = leb-true (length input) 16384 (met_from_accepted (leb (length input) 16384) 2 3 (verdict_accepted (booklist_answer input) (wants (leb (length input) 16384) 2 3) rest refl a)) in
    let opened = verdict_accepted (booklist_answer input) (open_answer input) (merge_answer word_kind plain 62 (kind_code input) (rows_in input) []) (ap (λ (t : Bool). and_then (wants t 2 3) rest) (le-leb (length input) 16384 fits)) a in
    let well : on_empty (kind_code input) (rows_in input) ≡ Accepted tt = sym (judged_open input fits real opened) ∙ sym a in
    record {
      opened = ap is_accepted opened;
      text = ap text_of (all_filled input fits real opened well) ∙ text_of_rows (rows_in input);
      short = fits_364 (rows_in input) (its_rows_fit input real opened).each_row_fits (few_lines (kind_code input) (rows_in input) well);
    }

-- an input that is refused
pub refused_text : (answer : Answer Book) (n p : ℕ) → Refused n p ≡ verdict answer → text_of answer ≡ text_line (decimal n) p
refused_text (Accepted book) n p e = absurd (never_both tt n p (sym e))
refused_text (Refused m q) n p e = let a : m ≡ n = cc in let b : q ≡ p = cc in rw (a, b)
