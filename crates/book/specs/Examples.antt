-- Worked postings, as the definitions answer them: under the word rent with 62 free pages, unless said otherwise.
use Rattle.std.specs.Prelude.{◌≡◌, ℕ, List, [], ◌∷◌, ◌++◌, map, codes}
use Rattle.std.specs.List.{range_with_len}
use Rattle.refusals.specs.Refusals.{Answer, Accepted, Refused}
use Rattle.keys.specs.Kinds.{Field}
use Rattle.keys.specs.Words.{padded}
use Rattle.keys.specs.BuiltIn.{word_kind}
use Rattle.batches.specs.declared.line.Sign.TheVariants.{Posting, Cancelling}
use Rattle.batches.specs.declared.line.Line.{Line}
use Rattle.batches.specs.Layout.{Row}
use Rattle.book.specs.Books.{Book, plain}
use Rattle.book.specs.Merging.{merge_answer}
use Rattle.book.specs.Entries.{posted_in, cancelled_in, paged}

abbrev pub rent : Field
rent = padded (codes "rent")

abbrev pub shout : Field
shout = padded (codes "TAX")

abbrev pub holding : List ℕ → Book
holding ps = record { key = rent; value = ps } ∷ []

abbrev pub plus : ℕ → Line
plus n = record { sign = Posting; number = n }

abbrev pub minus : ℕ → Line
minus n = record { sign = Cancelling; number = n }

abbrev pub under : Field → List Line → Row
under key lines = record { key = key; lines = lines }

abbrev pub merging : (free : ℕ) → List Row → Book → Answer Book
merging free rows book = merge_answer word_kind plain free 1 rows book

pub record WorkedPostings : Type 0 where
  pub no_rows_change_nothing : (book : Book) → merging 62 [] book ≡ Accepted book
  pub posting_7 : merging 62 (under rent (plus 7 ∷ []) ∷ []) [] ≡ Accepted (holding (7 ∷ []))
  pub then_9_gives_9_7 : merging 62 (under rent (plus 9 ∷ []) ∷ []) (holding (7 ∷ [])) ≡ Accepted (holding (9 ∷ 7 ∷ []))
  pub both_in_one_row : merging 62 (under rent (plus 7 ∷ plus 9 ∷ []) ∷ []) [] ≡ Accepted (holding (9 ∷ 7 ∷ []))
  pub posting_7_again : merging 62 (under rent (plus 7 ∷ []) ∷ []) (holding (9 ∷ 7 ∷ [])) ≡ Refused 6 0
  pub cancelling_7 : merging 0 (under rent (minus 7 ∷ []) ∷ []) (holding (7 ∷ [])) ≡ Accepted []
  pub cancelling_7_again : merging 62 (under rent (minus 7 ∷ []) ∷ []) [] ≡ Refused 7 0
  pub emptied_and_refilled : merging 62 (under rent (minus 1 ∷ plus 2 ∷ []) ∷ []) (holding (1 ∷ [])) ≡ Accepted (holding (2 ∷ []))
  pub keys_before_lines : merging 62 (under rent (minus 3 ∷ []) ∷ under shout (plus 1 ∷ []) ∷ []) [] ≡ Refused 4 1
  pub lowest_line_first : merging 62 (under rent (minus 5 ∷ plus 7 ∷ []) ∷ []) (holding (7 ∷ [])) ≡ Refused 7 0
  pub eight_lines_on_62_pages : merging 62 (under rent (map plus (range_with_len 1 8)) ∷ []) [] ≡ Accepted (holding (8 ∷ 7 ∷ 6 ∷ 5 ∷ 4 ∷ 3 ∷ 2 ∷ 1 ∷ []))
  pub nine_lines_on_62_pages : merging 62 (under rent (map plus (range_with_len 1 9)) ∷ []) [] ≡ Refused 8 0
  pub lines_before_pages : merging 62 (under rent (map plus (range_with_len 1 9) ++ minus 10 ∷ []) ∷ []) [] ≡ Refused 7 9
  pub four_in_one_row : merge_answer word_kind paged 62 1 (under rent (map plus (range_with_len 1 4)) ∷ []) [] ≡ Accepted (record { key = rent; value = record { inline = 4 ∷ []; records = (3 ∷ 2 ∷ 1 ∷ []) ∷ [] } } ∷ [])
  pub head_record_of_57_takes_three : posted_in 99 (record { inline = 97 ∷ 96 ∷ 95 ∷ []; records = range_with_len 1 57 ∷ [] }) ≡ record { inline = 99 ∷ []; records = (97 ∷ 96 ∷ 95 ∷ range_with_len 1 57) ∷ [] }
  pub head_record_of_58_does_not : posted_in 99 (record { inline = 97 ∷ 96 ∷ 95 ∷ []; records = range_with_len 1 58 ∷ [] }) ≡ record { inline = 99 ∷ []; records = (97 ∷ 96 ∷ 95 ∷ []) ∷ range_with_len 1 58 ∷ [] }
  pub only_the_head_record : posted_in 99 (record { inline = 97 ∷ 96 ∷ 95 ∷ []; records = range_with_len 1 60 ∷ (70 ∷ []) ∷ [] }) ≡ record { inline = 99 ∷ []; records = (97 ∷ 96 ∷ 95 ∷ []) ∷ range_with_len 1 60 ∷ (70 ∷ []) ∷ [] }
  pub emptied_record_goes : cancelled_in 5 (record { inline = []; records = (5 ∷ []) ∷ (4 ∷ 3 ∷ []) ∷ [] }) ≡ record { inline = []; records = (4 ∷ 3 ∷ []) ∷ [] }
