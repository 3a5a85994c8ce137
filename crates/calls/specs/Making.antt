-- Make: an empty tree over whatever stood on the pages.
use Rattle.std.specs.Prelude.{◌≡◌, ◌<◌, ◌≤◌, true, []}
use Rattle.refusals.specs.Refusals.{Answer, Accepted, Refused, on_accepted}
use Rattle.page_store.specs.Meanings.{Meaning, count_of}
use Rattle.keys.specs.Kinds.{Kind}
use Rattle.tree.specs.Valid.{Valid}
use Rattle.calls.specs.States.{State}

-- fewer than 8 pages are refused and stay as they were; else the pages are a valid tree of no entries
pub record MakesEmptyTree (kind : Kind) (before : Meaning) (answer : Answer Unit) (after : Meaning) : Type 0 where
  pub keeps_the_count : count_of after ≡ count_of before
  pub refuses_fewer_than_8_pages : count_of before < 8 → (answer ≡ Refused 11 (count_of before)) × (after ≡ before)
  pub writes_a_tree_of_no_entries : 8 ≤ count_of before → (answer ≡ Accepted tt) × Valid kind after.pages []

-- the index is open after an accepted make, and as it was after a refused one
pub record Makes (kind : Kind) (before : State) (answer : Answer Unit) (after : State) : Type 0 where
  pub makes_an_empty_tree : MakesEmptyTree kind before.meaning answer after.meaning
  pub opens_if_accepted : after.is_open ≡ on_accepted answer true before.is_open
