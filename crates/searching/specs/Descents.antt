-- The way down to the leaf of a key.
use Rattle.std.specs.Prelude.{◌≡◌, ℕ, suc, Bool, true, cond, ◌&&◌, List, [], ◌∷◌, ◌++◌, map, length, ◌==◌, nat_le}
use Rattle.std.specs.List.{flat_map, AllByRecursion}
use Rattle.keys.specs.Kinds.{Kind, Field, below}
use Rattle.nodes.specs.Layout.{HeaderPage, InnerRow}
use Rattle.nodes.specs.Meanings.{leaf_of}
use Rattle.book.specs.Entries.{Entries}
use Rattle.tree.specs.Trees.{EntryAt, Leaf, root_of, leaves_of, entries_of}
use Rattle.tree.specs.Valid.{Pages, entry_in, next_free, Valid}
use Rattle.calls.specs.States.{height_of}
use Rattle.searching.specs.declared.arrival.Descent.{Descent}

-- of the children of an inner node the one for a key: the last whose separator is not above it, else the first
abbrev pub child_for : Kind → Field → (child : ℕ) → List InnerRow → ℕ
child_for kind key child [] = child
child_for kind key child (row ∷ rows) = cond (below kind key row.key) child (child_for kind key row.child rows)

-- the header of a valid tree
abbrev pub header_on : {kind : Kind} {pages : Pages} {entries : Entries} → Valid kind pages entries → HeaderPage
header_on {kind = kind} {pages = pages} valid =
    record {
      kind_code = kind.code;
      height = suc valid.levels;
      root = root_of valid.levels valid.tree;
      first_free = next_free valid.free;
      free = length valid.free;
      keys = length (entries_of valid.levels valid.tree);
      pages = length pages;
    }

-- whether a header can be one: its kind code and its number of pages agree, and it has 1 to 6 levels
abbrev pub plausible : Kind → (count : ℕ) → HeaderPage → Bool
plausible kind count header = header.kind_code == kind.code && (header.pages == count && (nat_le 1 header.height && nat_le header.height 6))

-- the keys in leaves, from left to right
abbrev pub keys_in : List Leaf → List Field
keys_in leaves = map (λ (entry : EntryAt). entry.key) (flat_map (λ (leaf : Leaf). leaf.entries) leaves)

-- the way down arrives at a leaf such that all keys left of it lie below the key, and all right of it above
pub record Arrives {kind : Kind} {pages : Pages} {entries : Entries} (valid : Valid kind pages entries) (key : Field) (descent : Descent) : Type 0 where
  pub left : List Leaf
  pub leaf : Leaf
  pub right : List Leaf
  pub is_among_the_leaves : leaves_of valid.levels valid.tree ≡ left ++ (leaf ∷ right)
  pub was_read : leaf_of descent.leaf ≡ record { next = leaf.next; entries = map entry_in leaf.entries }
  pub left_lies_below : AllByRecursion (λ other. below kind other key ≡ true) (keys_in left)
  pub right_lies_above : AllByRecursion (λ other. below kind key other ≡ true) (keys_in right)
  pub one_read_a_level : descent.reads ≡ height_of valid
