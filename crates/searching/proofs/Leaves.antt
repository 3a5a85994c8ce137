-- What holds of each leaf of a valid tree. Assumes nothing.
use Rattle.std.proofs.Common.{ℕ, zero, suc, ◌≤◌, List, [], ◌∷◌, map, length, None}
use Rattle.std.specs.List.{flat_map, AllByRecursion}
use Rattle.std.proofs.ByRecursion.{All-append}
use Rattle.keys.specs.Kinds.{Kind}
use Rattle.nodes.specs.Layout.{LeafFits}
use Rattle.book.specs.Entries.{Entries}
use Rattle.tree.specs.Trees.{EntryAt, Leaf, Branch, Inner, Tree, leaves_of}
use Rattle.tree.specs.Valid.{Pages, SpellLeaf, Spell, Rise, Ordered, EntryFits, Valid}
use Rattle.tree.proofs.Everywhere.{all_parts}
use Rattle.tree.proofs.Fitting.{leaf_page, ChainFits, NodesFit, nodes_fit_pages}

-- a leaf whose page holds it, with its chains, its keys in order and its entries within their sizes
pub record LeafWhole (kind : Kind) (pages : Pages) (leaf : Leaf) : Type 0 where
  pub spelled : SpellLeaf pages leaf
  pub fits : LeafFits (leaf_page leaf) × AllByRecursion (λ (entry : EntryAt). ChainFits entry.records) leaf.entries
  pub rising : Rise kind None (map (λ (entry : EntryAt). entry.key) leaf.entries)
  pub entries_fit : AllByRecursion EntryFits leaf.entries

-- what a tree gives to each of its leaves
pub record Gives (P : (levels : ℕ) → Tree levels → Type 0) (Q : Leaf → Type 0) : Type 0 where
  pub at_a_leaf : (leaf : Leaf) → P zero leaf → Q leaf
  pub to_the_first : (levels : ℕ) (node : Inner (Tree levels)) → P (suc levels) node → P levels node.first
  pub to_the_rest : (levels : ℕ) (node : Inner (Tree levels)) → P (suc levels) node → AllByRecursion (λ (branch : Branch (Tree levels)). P levels branch.child) node.rest

module _ (P : (levels : ℕ) → Tree levels → Type 0) (Q : Leaf → Type 0) (gives : Gives P Q) where
  each_branch : (levels : ℕ) (rest : List (Branch (Tree levels))) → ((tree : Tree levels) → P levels tree → AllByRecursion Q (leaves_of levels tree)) → AllByRecursion (λ (branch : Branch (Tree levels)). P levels branch.child) rest → AllByRecursion Q (flat_map (λ (branch : Branch (Tree levels)). leaves_of levels branch.child) rest)
  each_branch levels [] one all = tt
  each_branch levels (b ∷ bs) one all =
      All-append Q (leaves_of levels b.child) (flat_map (λ (branch : Branch (Tree levels)). leaves_of levels branch.child) bs) (one b.child all.0) (each_branch levels bs one all.1)

  pub each_leaf : (levels : ℕ) (tree : Tree levels) → P levels tree → AllByRecursion Q (leaves_of levels tree)
  each_leaf zero leaf p = (gives.at_a_leaf leaf p, tt)
  each_leaf (suc levels) node p =
      All-append Q (leaves_of levels node.first) (flat_map (λ (branch : Branch (Tree levels)). leaves_of levels branch.child) node.rest)
      (each_leaf levels node.first (gives.to_the_first levels node p)) (each_branch levels node.rest (each_leaf levels) (gives.to_the_rest levels node p))

together : (kind : Kind) (pages : Pages) (leaves : List Leaf) → AllByRecursion (SpellLeaf pages) leaves → AllByRecursion (λ (leaf : Leaf). LeafFits (leaf_page leaf) × AllByRecursion (λ (entry : EntryAt). ChainFits entry.records) leaf.entries) leaves
    → AllByRecursion (λ (leaf : Leaf). Rise kind None (map (λ (entry : EntryAt). entry.key) leaf.entries)) leaves → AllByRecursion (λ (leaf : Leaf). AllByRecursion EntryFits leaf.entries) leaves → AllByRecursion (LeafWhole kind pages) leaves
together kind pages [] s f r e = tt
together kind pages (leaf ∷ leaves) s f r e = (record { spelled = s.0; fits = f.0; rising = r.0; entries_fit = e.0 }, together kind pages leaves s.1 f.1 r.1 e.1)

pub leaves_whole : (kind : Kind) (pages : Pages) (entries : Entries) (valid : Valid kind pages entries) → length pages ≤ 65536 → AllByRecursion (LeafWhole kind pages) (leaves_of valid.levels valid.tree)
leaves_whole kind pages entries valid few =
    let levels = valid.levels in
    let tree = valid.tree in
    together kind pages (leaves_of levels tree)
    (each_leaf (Spell pages) (SpellLeaf pages) (record { at_a_leaf = λ leaf p. p; to_the_first = λ levels node p. p.1; to_the_rest = λ levels node p. p.2 }) levels tree valid.nodes_are_spelled)
    (each_leaf NodesFit (λ (leaf : Leaf). LeafFits (leaf_page leaf) × AllByRecursion (λ (entry : EntryAt). ChainFits entry.records) leaf.entries) (record { at_a_leaf = λ leaf p. p; to_the_first = λ levels node p. p.1; to_the_rest = λ levels node p. p.2 }) levels tree (nodes_fit_pages kind pages entries valid few))
    (each_leaf (Ordered kind) (λ (leaf : Leaf). Rise kind None (map (λ (entry : EntryAt). entry.key) leaf.entries)) (record { at_a_leaf = λ leaf p. p; to_the_first = λ levels node p. p.2; to_the_rest = λ levels node p. p.3 }) levels tree valid.keys_are_in_order)
    (all_parts EntryFits (λ (leaf : Leaf). leaf.entries) (leaves_of levels tree) valid.entries_fit)
