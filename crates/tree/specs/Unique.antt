-- Pages hold one tree at most: what they spell is determined by their bytes.
use Rattle.std.specs.Prelude.{◌≡◌, ℕ, ◌≤◌, length}
use Rattle.keys.specs.Kinds.{Kind}
use Rattle.book.specs.Entries.{Entries}
use Rattle.tree.specs.Trees.{Tree}
use Rattle.tree.specs.Valid.{Pages, Valid}

-- a tree and how many levels it has below its root
abbrev pub TreeOfSomeHeight : Type 0
TreeOfSomeHeight = (levels : ℕ) × Tree levels

abbrev pub tree_in : {kind : Kind} {pages : Pages} {entries : Entries} → Valid kind pages entries → TreeOfSomeHeight
tree_in valid = (valid.levels, valid.tree)

-- two witnesses that the same pages are a valid tree: they agree in every node, record and free page, with all that these hold
pub record SameTree {kind other : Kind} {pages : Pages} {a b : Entries} (one : Valid kind pages a) (two : Valid other pages b) : Type 0 where
  pub same_kind_code : kind.code ≡ other.code
  pub same_height : one.levels ≡ two.levels
  pub same_tree : tree_in one ≡ tree_in two
  pub same_free_list : one.free ≡ two.free
  pub same_entries : a ≡ b

-- whatever the kinds, pages are a valid tree in one way at most
abbrev pub PagesHoldOneTree : Type 0
PagesHoldOneTree = (kind other : Kind) (pages : Pages) (a b : Entries) (one : Valid kind pages a) (two : Valid other pages b) → length pages ≤ 65536 → SameTree one two

abbrev pub EntriesAreUnique : Type 0
EntriesAreUnique = (kind : Kind) (pages : Pages) (a b : Entries) → length pages ≤ 65536 → Valid kind pages a → Valid kind pages b → a ≡ b
