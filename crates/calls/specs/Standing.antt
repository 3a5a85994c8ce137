-- What stands of an index for the batches that it has accepted since it was new.
use Rattle.std.specs.Prelude.{◌≡◌, ℕ, ◌+◌, ◌≤◌, true, ◌⊎◌, List, [], ◌∷◌, map, length, take}
use Rattle.std.specs.List.{AllByRecursion}
use Rattle.refusals.specs.Refusals.{Answer, Accepted, Refused}
use Rattle.page_store.specs.Meanings.{count_of}
use Rattle.keys.specs.Kinds.{Kind, Field}
use Rattle.batches.specs.Reading.{kind_code, rows_in}
use Rattle.batches.specs.Opening.{opens}
use Rattle.batches.specs.Reversal.{reversal}
use Rattle.book.specs.Books.{Book, count, postings_of}
use Rattle.book.specs.Merging.{posts_of, cancels_of}
use Rattle.book.specs.Entries.{Entries, book_of}
use Rattle.book.specs.Laws.{History, book_after, accepted_lines, AcceptedInTurn, Counted}
use Rattle.tree.specs.Valid.{Pages, Valid}
use Rattle.calls.specs.declared.answers.Looked.{Looked}
use Rattle.calls.specs.States.{State, pages_of, height_of}
use Rattle.calls.specs.Merges.{MergesBytes, merged}

-- the accepted batches as bytes, the latest first, and as rows with lines
abbrev pub AcceptedBatches : Type 0
AcceptedBatches = List (List ℕ)

abbrev pub history_of : AcceptedBatches → History
history_of batches = map rows_in batches

-- the book that the accepted batches make of the empty one
abbrev pub book_of_batches : Kind → AcceptedBatches → Book
book_of_batches kind batches = book_after kind (history_of batches)

-- the entries that the accepted batches make of none, by the rules for lines
abbrev pub entries_of_batches : Kind → AcceptedBatches → Entries
entries_of_batches kind [] = []
entries_of_batches kind (last ∷ earlier) = merged kind last (entries_of_batches kind earlier)

-- pages are a valid tree that spells a book, its leaves equally deep, at level 6 at most
pub record TreeOf (kind : Kind) (book : Book) (pages : Pages) : Type 0 where
  pub entries : Entries
  pub valid : Valid kind pages entries
  pub spells_the_book : book_of entries ≡ book
  pub at_most_6_levels : height_of valid ≤ 6

-- pages are a valid tree in which every key holds what it holds in a book, in some order
pub record HoldsAgain (kind : Kind) (book : Book) (pages : Pages) : Type 0 where
  pub entries : Entries
  pub valid : Valid kind pages entries
  pub each_key_holds_the_same : (key : Field) → kind.lawful key ≡ true → (n : ℕ) → count n (postings_of kind (book_of entries) key) ≡ count n (postings_of kind book key)

-- a merge of the reversal is accepted and gives every key back what it held, or is refused for want of pages
abbrev pub Restores : Kind → Book → (answer : Answer ℕ) → (after : State) → Type 0
Restores kind book answer after = ((keys : ℕ) × (answer ≡ Accepted keys) × HoldsAgain kind book (pages_of after)) ⊎ (answer ≡ Refused 8 0)

-- the bytes of the reversal of the batch accepted last open, and whatever a merge of them may answer next restores what was
abbrev pub LastCanBeReversed : Kind → AcceptedBatches → State → Type 0
LastCanBeReversed kind [] state = Unit {0}
LastCanBeReversed kind (last ∷ earlier) state =
    (opens (reversal last) ≡ true)
    × ((answer : Answer ℕ) (after : State) → MergesBytes kind state (reversal last) answer after → Restores kind (book_of_batches kind earlier) answer after)

pub record Standing (kind : Kind) (batches : AcceptedBatches) (state : State) : Type 0 where
  pub is_open : state.is_open ≡ true
  pub at_most_65536_pages : count_of state.meaning ≤ 65536
  pub batches_have_opened : AllByRecursion (λ bytes. (opens bytes ≡ true) × (kind_code bytes ≡ kind.code)) batches
  pub batches_were_accepted_in_turn : AcceptedInTurn kind (history_of batches)
  pub accepted_lines_are_counted : (key : Field) → kind.lawful key ≡ true → (n : ℕ) → Counted kind (history_of batches) key n
  pub the_last_batch_can_be_reversed : LastCanBeReversed kind batches state
  pub pages_are_the_tree_of_the_book : TreeOf kind (book_of_batches kind batches) (pages_of state)
  pub entries_are_those_of_the_batches : pages_are_the_tree_of_the_book.entries ≡ entries_of_batches kind batches

-- what a lookup shows of the accepted lines: the numbers that were posted once more than cancelled under the key, each once
pub record ShowsTheCounted (kind : Kind) (batches : AcceptedBatches) (key : Field) (list : List ℕ) (looked : Looked) (list_after : List ℕ) : Type 0 where
  pub numbers : List ℕ
  pub each_posted_once_more : (n : ℕ) → posts_of kind key n (accepted_lines (history_of batches)) ≡ cancels_of kind key n (accepted_lines (history_of batches)) + count n numbers
  pub none_twice : (n : ℕ) → count n numbers ≤ 1
  pub total_is_how_many : looked.total ≡ length numbers
  pub list_holds_them : length numbers ≤ length list → take looked.total list_after ≡ numbers
