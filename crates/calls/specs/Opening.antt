-- Open: a survey of all pages, which accepts exactly the valid trees of the kind.
use Rattle.std.specs.Prelude.{◌≡◌, ℕ, suc, true, cond, ◌||◌, ◌⊎◌, List, [], ◌∷◌, ◌++◌, map, length, drop, replicate, ◌==◌, nat_le, slice_index, slice_index_or}
use Rattle.refusals.specs.Refusals.{Answer, Accepted, Refused, wants, and_then, on_accepted}
use Rattle.page_store.specs.Meanings.{Page, Live, Gone, bytes_or}
use Rattle.keys.specs.Kinds.{Kind}
use Rattle.book.specs.Entries.{Entries}
use Rattle.tree.specs.Valid.{Pages, Valid}
use Rattle.calls.specs.States.{State, pages_of}

-- a byte of a page
abbrev pub byte_of : (at : ℕ) → Page → ℕ
byte_of at page = slice_index (bytes_or page []) at

-- LOST with the lowest lost page, counted from `from` on
abbrev pub lost_answer : (from : ℕ) → Pages → Answer Unit
lost_answer from [] = Accepted tt
lost_answer from (Live bytes ∷ rest) = lost_answer (suc from) rest
lost_answer from (Gone ∷ rest) = Refused 9 from

-- SIZE, BUFFER, LOST, and KIND by byte 1 of page 0, whatever its sort
abbrev pub before_the_tree : Kind → Pages → (marks : List ℕ) → Answer Unit
before_the_tree kind pages marks =
    and_then (wants (nat_le 8 (length pages)) 11 (length pages))
    (and_then (wants (nat_le (length pages) (length marks)) 13 (length marks))
    (and_then (lost_answer 0 pages)
    (wants (byte_of 1 (slice_index_or pages 0 Gone) == kind.code) 3 0)))

-- the first P marks are the sorts of the pages if accepted, untouched after SIZE and BUFFER, and else zero; those past them stay
abbrev pub marks_after : Answer Unit → Pages → (marks : List ℕ) → List ℕ
marks_after (Accepted done) pages marks = map (byte_of 0) pages ++ drop (length pages) marks
marks_after (Refused number place) pages marks = cond (number == 11 || number == 13) marks (replicate (length pages) 0 ++ drop (length pages) marks)

-- accepted over a valid tree, or DAMAGED over pages that are none
abbrev pub AcceptsExactlyValidTrees : Kind → Pages → Answer Unit → Type 0
AcceptsExactlyValidTrees kind pages answer =
    ((answer ≡ Accepted tt) × ((entries : Entries) × Valid kind pages entries))
    ⊎ ((answer ≡ Refused 10 0) × ((entries : Entries) → Valid kind pages entries → ⊥))

pub record Opens (kind : Kind) (before : State) (marks : List ℕ) (answer : Answer Unit) (after : State) (marks_left : List ℕ) : Type 0 where
  pub leaves_the_pages : after.meaning ≡ before.meaning
  pub refuses_in_order : (number place : ℕ) → before_the_tree kind (pages_of before) marks ≡ Refused number place → answer ≡ Refused number place
  pub then_judges_the_tree : before_the_tree kind (pages_of before) marks ≡ Accepted tt → AcceptsExactlyValidTrees kind (pages_of before) answer
  pub opens_if_accepted : after.is_open ≡ on_accepted answer true before.is_open
  pub marks_the_pages : marks_left ≡ marks_after answer (pages_of before) marks
