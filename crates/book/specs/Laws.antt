-- The laws of merging, over every kind, book and batch.
use Rattle.std.specs.Prelude.{◌≡◌, ℕ, suc, ◌+◌, ◌<◌, ◌≤◌, true, List, [], ◌∷◌, ◌++◌, map, reverse, length}
use Rattle.std.specs.List.{AllByRecursion}
use Rattle.refusals.specs.Refusals.{Answer, Accepted, Refused, wants, and_then, on_accepted}
use Rattle.keys.specs.Kinds.{Kind, Field}
use Rattle.batches.specs.declared.line.Line.{Line}
use Rattle.batches.specs.Layout.{Row}
use Rattle.batches.specs.KeyCheck.{kind_and_keys_answer}
use Rattle.batches.specs.Reversal.{reversed_row}
use Rattle.book.specs.Books.{Held, Keeping, Book, plain, count, changed, postings_of, Sorted, IsBook}
use Rattle.book.specs.Merging.{Booking, bookings_of, lines_under, applied, lines_taken, is_posting, posting_lines, posts_of, cancels_of, pages_answer, merge_answer, check_answer, left, RowsRise}
use Rattle.book.specs.Entries.{Entries, paged, book_of, EntriesFit}

-- Lines judged in turn, each on what those before it left, and lines judged on what was held before all of them are
-- answered alike: a merge is its check, and then all its lines.
abbrev pub CheckedBeforeIsJudgedInTurn : {V : Type 0} → Keeping V → Type 0
CheckedBeforeIsJudgedInTurn {V} keeping =
    (kind : Kind) (free code : ℕ) (rows : List Row) (list : List (Held V)) → RowsRise rows → Sorted kind list
    → merge_answer kind keeping free code rows list ≡ and_then (check_answer kind keeping free code rows list) (Accepted (lines_taken kind keeping (lines_under rows) list))

-- A merge does all its lines or none.
abbrev pub MergesAreAllOrNone : {V : Type 0} → Keeping V → Type 0
MergesAreAllOrNone {V} keeping =
    (kind : Kind) (free code : ℕ) (rows : List Row) (list : List (Held V))
    → left (merge_answer kind keeping free code rows list) list ≡ on_accepted (merge_answer kind keeping free code rows list) (lines_taken kind keeping (lines_under rows) list) list

-- A merge leaves a book a book.
abbrev pub BooksStayBooks : Type 0
BooksStayBooks =
    (kind : Kind) (free code : ℕ) (rows : List Row) (book after : Book) → IsBook kind book → RowsRise rows → merge_answer kind plain free code rows book ≡ Accepted after → IsBook kind after

-- the batches accepted since the book was empty, the latest first
abbrev pub History : Type 0
History = List (List Row)

abbrev pub book_after : Kind → History → Book
book_after kind [] = []
book_after kind (rows ∷ earlier) = lines_taken kind plain (lines_under rows) (book_after kind earlier)

-- their lines, each under the key of its row
abbrev pub accepted_lines : History → List Booking
accepted_lines [] = []
accepted_lines (rows ∷ earlier) = lines_under rows ++ accepted_lines earlier

-- a batch that was accepted on a book, with some number of free pages
pub record AcceptedOn (kind : Kind) (rows : List Row) (book : Book) : Type 0 where
  pub free : ℕ
  pub numbers_rise : RowsRise rows
  pub is_accepted : merge_answer kind plain free kind.code rows book ≡ Accepted (lines_taken kind plain (lines_under rows) book)

abbrev pub AcceptedInTurn : Kind → History → Type 0
AcceptedInTurn kind [] = Unit {0}
AcceptedInTurn kind (rows ∷ earlier) = AcceptedOn kind rows (book_after kind earlier) × AcceptedInTurn kind earlier

-- what the accepted lines of a key and a number come to
pub record Counted (kind : Kind) (history : History) (key : Field) (n : ℕ) : Type 0 where
  pub posted_is_cancelled_and_held : posts_of kind key n (accepted_lines history) ≡ cancels_of kind key n (accepted_lines history) + count n (postings_of kind (book_after kind history) key)
  pub held_at_most_once : count n (postings_of kind (book_after kind history) key) ≤ 1

-- Accepted postings of a number under a key are as many as its accepted cancellations, or one more, and the key's list
-- holds exactly the numbers with one more, each once.
abbrev pub PostingsAreCounted : Type 0
PostingsAreCounted = (kind : Kind) (history : History) → AcceptedInTurn kind history → (key : Field) → kind.lawful key ≡ true → (n : ℕ) → Counted kind history key n

-- what becomes of a batch's reversal on the book that the batch left
pub record Reversed (kind : Kind) (code : ℕ) (rows : List Row) (book after : Book) : Type 0 where
  pub is_refused_only_for_pages : (free : ℕ) → merge_answer kind plain free code (map reversed_row rows) after
      ≡ and_then (pages_answer free (posting_lines (lines_under (map reversed_row rows)))) (Accepted (lines_taken kind plain (lines_under (map reversed_row rows)) after))
  pub restores_each_key : (key : Field) → kind.lawful key ≡ true → (n : ℕ)
      → count n (postings_of kind (lines_taken kind plain (lines_under (map reversed_row rows)) after) key) ≡ count n (postings_of kind book key)

-- The reversal of an accepted batch is accepted next, or refused only for want of pages, and gives every key what it held, in some order.
abbrev pub ReversalsRestore : Type 0
ReversalsRestore =
    (kind : Kind) (free code : ℕ) (rows : List Row) (book after : Book) → IsBook kind book → RowsRise rows → merge_answer kind plain free code rows book ≡ Accepted after → Reversed kind code rows book after

-- the answer of a merge into entries, as an answer about the book that they spell
abbrev pub spelled : Answer Entries → Answer Book
spelled (Accepted entries) = Accepted (book_of entries)
spelled (Refused number place) = Refused number place

-- Entries merge as the book that they spell.
abbrev pub EntriesMergeAsTheirBook : Type 0
EntriesMergeAsTheirBook =
    (kind : Kind) (free code : ℕ) (rows : List Row) (entries : Entries) → Sorted kind entries → EntriesFit entries → spelled (merge_answer kind paged free code rows entries) ≡ merge_answer kind plain free code rows (book_of entries)

-- A merge leaves fitting entries fitting.
abbrev pub EntriesStayFitting : Type 0
EntriesStayFitting =
    (kind : Kind) (free code : ℕ) (rows : List Row) (entries after : Entries) → Sorted kind entries → EntriesFit entries → merge_answer kind paged free code rows entries ≡ Accepted after → Sorted kind after × EntriesFit after

-- all lines of a row, one after another, on what stands under its key
abbrev pub all_applied : {V : Type 0} → Keeping V → List Line → V → V
all_applied keeping [] value = value
all_applied keeping (line ∷ lines) value = all_applied keeping lines (applied keeping line.sign line.number value)

-- The lines of a row are one change under its key.
abbrev pub ARowIsOneChange : {V : Type 0} → Keeping V → Type 0
ARowIsOneChange {V} keeping =
    (kind : Kind) (row : Row) (list : List (Held V)) → kind.lawful row.key ≡ true → 0 < length row.lines → Sorted kind list
    → lines_taken kind keeping (bookings_of row) list ≡ changed kind keeping row.key (all_applied keeping row.lines) list

-- the first line that cancels is refused where nothing is held
abbrev pub no_cancelling : (at : ℕ) → List Booking → Answer Unit
no_cancelling at [] = Accepted tt
no_cancelling at (b ∷ bs) = and_then (wants (is_posting b.sign) 7 at) (no_cancelling (suc at) bs)

-- a row of postings as a key with its list, the last line first
abbrev pub as_held : Row → Held (List ℕ)
as_held row = record { key = row.key; value = reverse (map (λ (line : Line). line.number) row.lines) }

-- On the empty book a batch is refused at its first cancelling line; else the book is its rows.
abbrev pub MergedIntoTheEmptyBook : Type 0
MergedIntoTheEmptyBook =
    (kind : Kind) (free code : ℕ) (rows : List Row) → RowsRise rows → AllByRecursion (λ (row : Row). 0 < length row.lines) rows
    → merge_answer kind plain free code rows []
    ≡ and_then (kind_and_keys_answer kind code rows) (and_then (no_cancelling 0 (lines_under rows)) (and_then (pages_answer free (posting_lines (lines_under rows))) (Accepted (map as_held rows))))
