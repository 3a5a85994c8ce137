-- What a call of an index finds and leaves.
use Rattle.std.specs.Prelude.{◌≡◌, ℕ, suc, Bool, ◌⊎◌, length}
use Rattle.page_store.specs.Meanings.{Meaning}
use Rattle.keys.specs.Kinds.{Kind}
use Rattle.book.specs.Entries.{Entries}
use Rattle.tree.specs.Valid.{Pages, Valid}

-- the state of an index: what its store means, whether the index is open, and whether the store is settled
pub record State : Type 0 where
  pub meaning : Meaning
  pub is_open : Bool
  pub settled : Bool

abbrev pub state_of : Meaning → (is_open settled : Bool) → State
state_of meaning is_open settled = record { meaning = meaning; is_open = is_open; settled = settled }

abbrev pub pages_of : State → Pages
pages_of state = state.meaning.pages

-- the height and the number of free pages of a valid tree, as its header has them
abbrev pub height_of : {kind : Kind} {pages : Pages} {entries : Entries} → Valid kind pages entries → ℕ
height_of valid = suc valid.levels

abbrev pub free_in : {kind : Kind} {pages : Pages} {entries : Entries} → Valid kind pages entries → ℕ
free_in valid = length valid.free

-- the refusals by which pages show that they are no valid tree: LOST, DAMAGED, and PAGE for a link past the pages
abbrev pub ShowsDamage : (number : ℕ) → Type 0
ShowsDamage number = (number ≡ 9) ⊎ ((number ≡ 10) ⊎ (number ≡ 12))
