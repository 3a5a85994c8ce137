-- The B+-tree as textbooks have it, said of a tree on pages node by node.
use Rattle.std.specs.Prelude.{◌≡◌, ℕ, zero, suc, ◌<◌, ◌≤◌, Bool, true, false, List, [], ◌∷◌, map, length, None, Option, slice_index_or}
use Rattle.std.specs.List.{ContainsAt as Has, AllByRecursion, slice_get}
use Rattle.keys.specs.Kinds.{Kind, Field}
use Rattle.book.specs.Entries.{Entries}
use Rattle.tree.specs.Trees.{EntryAt, Leaf, Inner, Tree, each_child, leaves_of, keys_of}
use Rattle.tree.specs.Valid.{Pages, Rise, From, Below, Linked, Valid}

-- the children of an inner node, from left to right, and the separators between them
abbrev pub children_of : {X : Type 0} → Inner X → List X
children_of node = node.first ∷ map (λ branch. branch.child) node.rest

abbrev pub separators_of : {X : Type 0} → Inner X → List Field
separators_of node = map (λ branch. branch.key) node.rest

-- the separators on both sides of child i: none left of the first child, none right of the last
abbrev pub separator_left_of : {X : Type 0} → ℕ → Inner X → Option Field
separator_left_of zero node = None
separator_left_of (suc i) node = slice_get (separators_of node) i

abbrev pub separator_right_of : {X : Type 0} → ℕ → Inner X → Option Field
separator_right_of i node = slice_get (separators_of node) i

-- a child has a key exactly if the key lies from the separator left of it up to, but not including, the one right of it
pub record InChildByRange (kind : Kind) (left right : Option Field) (keys : List Field) (key : Field) : Type 0 where
  pub held_if_in_range : From kind left key → Below kind right key → Has keys key
  pub in_range_if_held : Has keys key → From kind left key × Below kind right key

pub record BPlusLeaf (kind : Kind) (root : Bool) (leaf : Leaf) : Type 0 where
  pub at_most_8_entries : length leaf.entries ≤ 8
  pub at_least_4_entries_unless_root : root ≡ false → 4 ≤ length leaf.entries
  pub keys_rise : Rise kind None (map (λ (entry : EntryAt). entry.key) leaf.entries)

pub record BPlusInner (kind : Kind) (root : Bool) (levels : ℕ) (node : Inner (Tree levels)) : Type 0 where
  pub at_most_16_children : length (children_of node) ≤ 16
  pub at_least_8_children_unless_root : root ≡ false → 8 ≤ length (children_of node)
  pub at_least_2_children : 2 ≤ length (children_of node)
  pub one_separator_less_than_children : suc (length (separators_of node)) ≡ length (children_of node)
  pub separators_rise : Rise kind None (separators_of node)
  pub children_hold_exactly_their_ranges : (i : ℕ) (key : Field) → i < length (children_of node) → Has (keys_of (suc levels) node) key
      → InChildByRange kind (separator_left_of i node) (separator_right_of i node) (keys_of levels (slice_index_or (children_of node) i node.first)) key

-- of a node and of all below it
abbrev pub BPlusNodes : Kind → (root : Bool) → (levels : ℕ) → Tree levels → Type 0
BPlusNodes kind root zero leaf = BPlusLeaf kind root leaf
BPlusNodes kind root (suc levels) node = BPlusInner kind root levels node × AllByRecursion (BPlusNodes kind false levels) (children_of node)

-- how many levels below the root each leaf lies, from left to right
abbrev pub leaf_depths : (levels : ℕ) → Tree levels → List ℕ
leaf_depths zero leaf = 0 ∷ []
leaf_depths (suc levels) node = map suc (each_child (leaf_depths levels) node)

pub record BPlusTree (kind : Kind) (levels : ℕ) (tree : Tree levels) : Type 0 where
  pub every_node_keeps_the_rules : BPlusNodes kind true levels tree
  pub each_leaf_has_a_depth : length (leaf_depths levels tree) ≡ length (leaves_of levels tree)
  pub leaves_are_equally_deep : AllByRecursion (λ depth. depth ≡ levels) (leaf_depths levels tree)
  pub keys_rise_from_leaf_to_leaf : Rise kind None (keys_of levels tree)
  pub leaves_are_linked : Linked (leaves_of levels tree)

abbrev pub ValidTreesAreBPlusTrees : Type 0
ValidTreesAreBPlusTrees = (kind : Kind) (pages : Pages) (entries : Entries) (valid : Valid kind pages entries) → BPlusTree kind valid.levels valid.tree
