-- What booklist prints: the answer to merging its input into a new index over 64 pages, and the listing of all of it.
use Rattle.std.specs.Prelude.{ℕ, not, List, [], ◌∷◌, ◌++◌, length, drop, decimal, ◌==◌, nat_le}
use Rattle.std.specs.List.{flat_map, take_while}
use Rattle.refusals.specs.Refusals.{Answer, Accepted, Refused, wants, and_then}
use Rattle.keys.specs.BuiltIn.{word_kind}
use Rattle.batches.specs.Reading.{kind_code, rows_in}
use Rattle.batches.specs.Opening.{open_answer}
use Rattle.book.specs.Books.{Book, plain}
use Rattle.book.specs.Merging.{merge_answer}
use Rattle.book.specs.Looking.{Listed, rows_under}

-- at most 16,384 bytes are looked at; the batch is opened and merged into the empty book, with 62 pages free
unfoldable pub booklist_answer : List ℕ → Answer Book
booklist_answer input =
    and_then (wants (nat_le (length input) 16384) 2 3) (and_then (open_answer input) (merge_answer word_kind plain 62 (kind_code input) (rows_in input) []))

-- two parts with a space between them, then the end of the line; the second is a number
abbrev pub text_line : List ℕ → ℕ → List ℕ
text_line first n = first ++ (32 ∷ (decimal n ++ (10 ∷ [])))

-- a key's bytes before its first zero
abbrev pub until_zero : List ℕ → List ℕ
until_zero key = take_while (λ b. not (b == 0)) key

-- all rows of a book: keys rising, the postings of each as in the book
abbrev pub all_rows : Book → List Listed
all_rows book = flat_map rows_under book

-- key and posting
abbrev pub row_text : Listed → List ℕ
row_text row = text_line (until_zero row.key) row.posting

-- 0 and the number of rows, then the rows; or a refusal's number and place
abbrev pub text_of : Answer Book → List ℕ
text_of (Accepted book) = text_line (decimal 0) (length (all_rows book)) ++ flat_map row_text (all_rows book)
text_of (Refused number place) = text_line (decimal number) place

unfoldable pub booklist_text : List ℕ → List ℕ
booklist_text input = text_of (booklist_answer input)

-- a buffer with a text in front, the other bytes as before
abbrev pub filled : List ℕ → List ℕ → List ℕ
filled text buffer = text ++ drop (length text) buffer
