-- The laws of merging: all or none, checked before, counting, reversal.
use Rattle.std.proofs.Common.{◌≡◌, ℕ, ◌+◌, true, eqb, List, [], ◌∷◌, ◌++◌, map, None, refl, ap, ◌∙◌, arith}
use Rattle.std.specs.List.{AllByRecursion}
use Rattle.refusals.specs.Refusals.{Answer, Accepted, Refused, and_then, on_accepted}
use Rattle.keys.specs.Kinds.{Kind, Field}
use Rattle.batches.specs.Layout.{Row}
use Rattle.batches.specs.KeyCheck.{kind_and_keys_answer}
use Rattle.batches.specs.Reversal.{reversed_row}
use Rattle.book.specs.Books.{Held, Keeping, plain, count, postings_of, Sorted, IsBook}
use Rattle.book.specs.Merging.{Booking, lines_under, take_lines, lines_answer, lines_taken, posting_lines, posts_of, cancels_of, pages_answer, if_pages, merge_answer, check_answer, left}
use Rattle.book.specs.Laws.{CheckedBeforeIsJudgedInTurn, MergesAreAllOrNone, BooksStayBooks, History, book_after, accepted_lines, AcceptedInTurn, PostingsAreCounted, ReversalsRestore}
use Rattle.book.proofs.Bookings.{KeysRise, rise_keys, accepted_keys, Once, Sound, once_rows, sound_rows, reversed_rows, reversed_keys, reversed_rise, reversed_counts}
use Rattle.book.proofs.Taking.{Follows, then_accepted, in_sequence, taken_is, lines_counts, fit_taken, reversal_fits}
use Rattle.book.proofs.Plain.{plain_follows, book_postings, lines_book, empty_book}

-- an accepted merge, taken apart
pub record Merged {V : Type 0} (kind : Kind) (keeping : Keeping V) (free code : ℕ) (rows : List Row) (list after : List (Held V)) : Type 0 where
  pub kind_fits : eqb code kind.code ≡ true
  pub keys_are_rising : KeysRise kind None rows
  pub lines_are_taken : take_lines kind keeping 0 (lines_under rows) list ≡ Accepted after
  pub pages_suffice : pages_answer free (posting_lines (lines_under rows)) ≡ Accepted tt

if_accepted : {A : Type 0} (free lines : ℕ) (answer : Answer A) (x : A) → if_pages free lines answer ≡ Accepted x → (answer ≡ Accepted x) × (pages_answer free lines ≡ Accepted tt)
if_accepted free lines (Accepted value) x e = let both = then_accepted (pages_answer free lines) (Accepted value) x e in (both.1, both.0)
if_accepted free lines (Refused number place) x e = let z : ◌≡◌ {A = ℕ} 0 1 = cc in absurd (omega arith)

pub merged : {V : Type 0} (kind : Kind) (keeping : Keeping V) (free code : ℕ) (rows : List Row) (list after : List (Held V)) → merge_answer kind keeping free code rows list ≡ Accepted after → Merged kind keeping free code rows list after
unfolding merge_answer
merged kind keeping free code rows list after e =
    let lines = lines_under rows in
    let first = then_accepted (kind_and_keys_answer kind code rows) (if_pages free (posting_lines lines) (take_lines kind keeping 0 lines list)) after e in
    let keys = accepted_keys kind code rows first.0 in
    let second = if_accepted free (posting_lines lines) (take_lines kind keeping 0 lines list) after first.1 in
    record { kind_fits = keys.0; keys_are_rising = keys.1; lines_are_taken = second.0; pages_suffice = second.1 }

-- kind and keys accepted again
pub keys_accepted : (kind : Kind) (code : ℕ) (rows : List Row) → eqb code kind.code ≡ true → KeysRise kind None rows → kind_and_keys_answer kind code rows ≡ Accepted tt
keys_accepted kind code rows e k = rw (e, rise_keys kind 0 None rows k)

if_pages_then : {A : Type 0} (free lines : ℕ) (a : Answer Unit) (x : A) → if_pages free lines (and_then a (Accepted x)) ≡ and_then (and_then a (pages_answer free lines)) (Accepted x)
if_pages_then free lines (Accepted tt) x = refl
if_pages_then free lines (Refused number place) x = refl

pub checked_before : {V : Type 0} (keeping : Keeping V) → Follows keeping → CheckedBeforeIsJudgedInTurn keeping
unfolding merge_answer check_answer
checked_before keeping follows kind free code rows list r s = go (kind_and_keys_answer kind code rows) refl
  where
    goal : Answer Unit → Type 0
    goal a = and_then a (if_pages free (posting_lines (lines_under rows)) (take_lines kind keeping 0 (lines_under rows) list))
        ≡ and_then (and_then a (and_then (lines_answer kind keeping 0 (lines_under rows) list) (pages_answer free (posting_lines (lines_under rows))))) (Accepted (lines_taken kind keeping (lines_under rows) list))

    go : (a : Answer Unit) → kind_and_keys_answer kind code rows ≡ a → goal a
    go (Accepted tt) e =
        let keys = accepted_keys kind code rows e in
        ap (λ (x : Answer (List (Held _))). if_pages free (posting_lines (lines_under rows)) x) (in_sequence kind keeping follows 0 (lines_under rows) list (once_rows kind None rows keys.1 r) s)
        ∙ if_pages_then free (posting_lines (lines_under rows)) (lines_answer kind keeping 0 (lines_under rows) list) (lines_taken kind keeping (lines_under rows) list)
    go (Refused number place) e = refl

pub all_or_none : {V : Type 0} (keeping : Keeping V) → Follows keeping → MergesAreAllOrNone keeping
all_or_none {V} keeping follows kind free code rows list = go (merge_answer kind keeping free code rows list) refl
  where
    go : (a : Answer (List (Held V))) → merge_answer kind keeping free code rows list ≡ a → left a list ≡ on_accepted a (lines_taken kind keeping (lines_under rows) list) list
    go (Accepted after) e = taken_is kind keeping follows 0 (lines_under rows) list after (merged kind keeping free code rows list after e).lines_are_taken
    go (Refused number place) e = refl

pub books_stay_books : BooksStayBooks
books_stay_books kind free code rows book after i r e =
    let m = merged kind plain free code rows book after e in
    lines_book kind 0 (lines_under rows) book after (sound_rows kind None rows m.keys_are_rising r) i m.lines_are_taken

-- a history's book is a book
pub history_book : (kind : Kind) (history : History) → AcceptedInTurn kind history → IsBook kind (book_after kind history)
history_book kind [] a = empty_book kind
history_book kind (rows ∷ earlier) a =
    books_stay_books kind a.0.free kind.code rows (book_after kind earlier) (book_after kind (rows ∷ earlier)) (history_book kind earlier a.1) a.0.numbers_rise a.0.is_accepted

posts-++ : (kind : Kind) (key : Field) (n : ℕ) (bs cs : List Booking) → (posts_of kind key n (bs ++ cs) ≡ posts_of kind key n bs + posts_of kind key n cs) × (cancels_of kind key n (bs ++ cs) ≡ cancels_of kind key n bs + cancels_of kind key n cs)
posts-++ kind key n [] cs = omega arith
posts-++ kind key n (b ∷ bs) cs = omega (arith, posts-++ kind key n bs cs)

history_counts : (kind : Kind) (history : History) → AcceptedInTurn kind history → (key : Field) → kind.lawful key ≡ true → (n : ℕ)
    → posts_of kind key n (accepted_lines history) ≡ cancels_of kind key n (accepted_lines history) + count n (postings_of kind (book_after kind history) key)
history_counts kind [] a key lk n = refl
history_counts kind (rows ∷ earlier) a key lk n =
    let m = merged kind plain a.0.free kind.code rows (book_after kind earlier) (book_after kind (rows ∷ earlier)) a.0.is_accepted in
    let step = lines_counts kind plain plain_follows 0 (lines_under rows) (book_after kind earlier) (book_after kind (rows ∷ earlier)) key n lk (sound_rows kind None rows m.keys_are_rising a.0.numbers_rise) (history_book kind earlier a.1).keys_rise m.lines_are_taken in
    omega (arith, step, posts-++ kind key n (lines_under rows) (accepted_lines earlier), history_counts kind earlier a.1 key lk n)

pub postings_are_counted : PostingsAreCounted
postings_are_counted kind history a key lk n = record {
  posted_is_cancelled_and_held = history_counts kind history a key lk n;
  held_at_most_once = (book_postings kind (book_after kind history) key (history_book kind history a)).0 n;
}

pub reversals_restore : ReversalsRestore
reversals_restore kind free code rows book after i r e =
    record { is_refused_only_for_pages = answers; restores_each_key = restores }
  where
    m : Merged kind plain free code rows book after
    m = merged kind plain free code rows book after e

    back : List Row
    back = map reversed_row rows

    sound : AllByRecursion (Sound kind) (lines_under rows)
    sound = sound_rows kind None rows m.keys_are_rising r

    keys : KeysRise kind None back
    keys = reversed_keys kind None rows m.keys_are_rising

    once : Once kind (lines_under back)
    once = once_rows kind None back keys (reversed_rise rows r)

    sorted : Sorted kind after
    sorted = (books_stay_books kind free code rows book after i r e).keys_rise

    taken : take_lines kind plain 0 (lines_under back) after ≡ Accepted (lines_taken kind plain (lines_under back) after)
    taken = fit_taken kind plain plain_follows 0 (lines_under back) after once sorted
        (rw (reversed_rows rows) (reversal_fits kind plain plain_follows (lines_under rows) book after (once_rows kind None rows m.keys_are_rising r) sound i.keys_rise (λ key n lk. (book_postings kind book key i).0 n) m.lines_are_taken))

    answers : (free' : ℕ) → merge_answer kind plain free' code back after ≡ and_then (pages_answer free' (posting_lines (lines_under back))) (Accepted (lines_taken kind plain (lines_under back) after))
    answers free' = unfold merge_answer in rw (keys_accepted kind code back m.kind_fits keys, taken)

    restores : (key : Field) → kind.lawful key ≡ true → (n : ℕ) → count n (postings_of kind (lines_taken kind plain (lines_under back) after) key) ≡ count n (postings_of kind book key)
    restores key lk n =
        let there = lines_counts kind plain plain_follows 0 (lines_under rows) book after key n lk sound i.keys_rise m.lines_are_taken in
        let again = lines_counts kind plain plain_follows 0 (lines_under back) after (lines_taken kind plain (lines_under back) after) key n lk (sound_rows kind None back keys (reversed_rise rows r)) sorted taken in
        let turned = reversed_counts kind key n (lines_under rows) in
        let posts = ap (posts_of kind key n) (reversed_rows rows) in
        let cancels = ap (cancels_of kind key n) (reversed_rows rows) in
        omega arith
