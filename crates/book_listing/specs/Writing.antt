-- What the steps of writing a listing leave: for functions that the crate keeps to itself.
use Rattle.std.specs.Prelude.{ℕ, List, ◌++◌, length, decimal}
use Rattle.std.specs.List.{flat_map}
use Rattle.refusals.specs.Refusals.{Answer, Accepted, Refused, and_then}
use Rattle.keys.specs.BuiltIn.{word_kind}
use Rattle.batches.specs.Layout.{Row, lines_of}
use Rattle.batches.specs.KeyCheck.{kind_and_keys_answer}
use Rattle.book.specs.Books.{Book}
use Rattle.book.specs.Merging.{lines_under, posting_lines, pages_answer}
use Rattle.book.specs.Looking.{rows_under}
use Rattle.book.specs.Laws.{no_cancelling, as_held}
use Rattle.book_listing.specs.Text.{text_line, row_text}

-- an answer without its book
abbrev pub verdict : Answer Book → Answer Unit
verdict (Accepted book) = Accepted tt
verdict (Refused number place) = Refused number place

-- what a batch is answered on the empty book, with 62 pages free
abbrev pub on_empty : (code : ℕ) → List Row → Answer Unit
on_empty code rows =
    and_then (kind_and_keys_answer word_kind code rows) (and_then (no_cancelling 0 (lines_under rows)) (pages_answer 62 (posting_lines (lines_under rows))))

-- the text of a row of postings: its last line first
unfoldable pub postings_text : Row → List ℕ
postings_text row = flat_map row_text (rows_under (as_held row))

-- the text of a batch of postings
unfoldable pub batch_text : List Row → List ℕ
batch_text rows = text_line (decimal 0) (length (lines_of rows)) ++ flat_map postings_text rows
