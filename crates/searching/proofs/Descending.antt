-- The way down a valid tree, level by level. Assumes nothing.
use Rattle.std.proofs.Common.{◌≡◌, ℕ, zero, suc, ◌≤◌, true, List, [], ◌∷◌, ◌++◌, map, length, None, sym, ap, ◌∙◌, subst, append_assoc, append-nil}
use Rattle.std.specs.List.{flat_map, AllByRecursion}
use Rattle.page_store.specs.Meanings.{Meaning, Live, page_at}
use Rattle.keys.specs.Kinds.{Kind, Field, below}
use Rattle.nodes.specs.declared.inner.InnerNode.{InnerNode}
use Rattle.nodes.specs.Layout.{InnerRow, InnerPage, inner_image, InnerFits}
use Rattle.nodes.specs.Meanings.{inner_of}
use Rattle.book.specs.Entries.{Entries}
use Rattle.tree.specs.Trees.{EntryAt, Leaf, Branch, Tree, root_of, leaves_of, keys_of}
use Rattle.tree.specs.Valid.{Pages, Spell, Ordered, Valid}
use Rattle.tree.proofs.Fitting.{NodesFit, inner_page, nodes_fit_pages, rise_lawful}
use Rattle.searching.specs.Descents.{child_for, keys_in}
use Rattle.searching.proofs.Picking.{all_keys, rows_for, Picked, pick}

-- every key of an ordered tree is lawful
module _ (kind : Kind) where
  others_lawful : (levels : ℕ) (rest : List (Branch (Tree levels))) → AllByRecursion (λ (branch : Branch (Tree levels)). AllByRecursion (λ k. kind.lawful k ≡ true) (keys_of levels branch.child)) rest → AllByRecursion (λ k. kind.lawful k ≡ true) (keys_in (flat_map (λ (branch : Branch (Tree levels)). leaves_of levels branch.child) rest))
  others_lawful levels [] all = tt
  others_lawful levels (b ∷ bs) all =
      all_keys (λ k. kind.lawful k ≡ true) (leaves_of levels b.child) (flat_map (λ (branch : Branch (Tree levels)). leaves_of levels branch.child) bs) all.0 (others_lawful levels bs all.1)

  each_lawful : (levels : ℕ) (rest : List (Branch (Tree levels))) → ((tree : Tree levels) → Ordered kind levels tree → AllByRecursion (λ k. kind.lawful k ≡ true) (keys_of levels tree)) → AllByRecursion (λ (branch : Branch (Tree levels)). Ordered kind levels branch.child) rest → AllByRecursion (λ (branch : Branch (Tree levels)). AllByRecursion (λ k. kind.lawful k ≡ true) (keys_of levels branch.child)) rest
  each_lawful levels [] one all = tt
  each_lawful levels (b ∷ bs) one all = (one b.child all.0, each_lawful levels bs one all.1)

  pub keys_lawful : (levels : ℕ) (tree : Tree levels) → Ordered kind levels tree → AllByRecursion (λ k. kind.lawful k ≡ true) (keys_of levels tree)
  keys_lawful zero leaf ordered = subst (λ (es : List EntryAt). AllByRecursion (λ k. kind.lawful k ≡ true) (map (λ (entry : EntryAt). entry.key) es)) (sym (append-nil leaf.entries)) (rise_lawful kind None (map (λ (entry : EntryAt). entry.key) leaf.entries) ordered)
  keys_lawful (suc levels) node ordered =
      all_keys (λ k. kind.lawful k ≡ true) (leaves_of levels node.first) (flat_map (λ (branch : Branch (Tree levels)). leaves_of levels branch.child) node.rest)
      (keys_lawful levels node.first ordered.2) (others_lawful levels node.rest (each_lawful levels node.rest (keys_lawful levels) ordered.3))

-- a subtree on the way: its root stands on the page, keys left of it lie below the key, and keys right of it above
pub record Way (kind : Kind) (pages : Pages) (key : Field) (all : List Leaf) (levels page : ℕ) : Type 0 where
  pub tree : Tree levels
  pub is_root : root_of levels tree ≡ page
  pub spelled : Spell pages levels tree
  pub fits : NodesFit levels tree
  pub ordered : Ordered kind levels tree
  pub left : List Leaf
  pub right : List Leaf
  pub among : all ≡ left ++ (leaves_of levels tree ++ right)
  pub left_below : AllByRecursion (λ k. below kind k key ≡ true) (keys_in left)
  pub right_above : AllByRecursion (λ k. below kind key k ≡ true) (keys_in right)

pub way_from_the_root : (kind : Kind) (pages : Pages) (key : Field) (entries : Entries) (valid : Valid kind pages entries) → length pages ≤ 65536 → (page : ℕ) → page ≡ root_of valid.levels valid.tree → Way kind pages key (leaves_of valid.levels valid.tree) valid.levels page
way_from_the_root kind pages key entries valid few page is =
    record {
      tree = valid.tree;
      is_root = sym is;
      spelled = valid.nodes_are_spelled;
      fits = nodes_fit_pages kind pages entries valid few;
      ordered = valid.keys_are_in_order;
      left = [];
      right = [];
      among = sym (append-nil (leaves_of valid.levels valid.tree));
      left_below = tt;
      right_above = tt;
    }

-- what holds of a subtree as a whole
pub record Whole (kind : Kind) (pages : Pages) (levels : ℕ) (tree : Tree levels) : Type 0 where
  pub spelled : Spell pages levels tree
  pub fits : NodesFit levels tree
  pub ordered : Ordered kind levels tree

each_whole : (kind : Kind) (pages : Pages) (levels : ℕ) (rest : List (Branch (Tree levels))) → AllByRecursion (λ (b : Branch (Tree levels)). Spell pages levels b.child) rest → AllByRecursion (λ (b : Branch (Tree levels)). NodesFit levels b.child) rest → AllByRecursion (λ (b : Branch (Tree levels)). Ordered kind levels b.child) rest → AllByRecursion (λ (b : Branch (Tree levels)). Whole kind pages levels b.child) rest
each_whole kind pages levels [] s f o = tt
each_whole kind pages levels (b ∷ bs) s f o = (record { spelled = s.0; fits = f.0; ordered = o.0 }, each_whole kind pages levels bs s.1 f.1 o.1)

separators_lawful : (kind : Kind) {X : Type 0} (root : X → ℕ) (rest : List (Branch X)) → AllByRecursion (λ k. kind.lawful k ≡ true) (map (λ (b : Branch X). b.key) rest) → AllByRecursion (λ (row : InnerRow). kind.lawful row.key ≡ true) (rows_for root rest)
separators_lawful kind root [] all = tt
separators_lawful kind root (b ∷ bs) all = (all.0, separators_lawful kind root bs all.1)

module _ (kind : Kind) (m : Meaning) (key : Field) (all : List Leaf) (levels page : ℕ) (way : Way kind m.pages key all (suc levels) page) where
  -- the page holds the inner node
  pub holds_the_node : page_at m page ≡ Live (inner_image (inner_page levels way.tree))
  holds_the_node = ap (page_at m) (sym way.is_root) ∙ way.spelled.0

  pub node_fits : InnerFits (inner_page levels way.tree)
  node_fits = way.fits.0

  pub node_rows_lawful : (node : InnerNode) → inner_of node ≡ inner_page levels way.tree → AllByRecursion (λ (row : InnerRow). kind.lawful row.key ≡ true) (inner_of node).rows
  node_rows_lawful node is = subst (λ (p : InnerPage). AllByRecursion (λ (row : InnerRow). kind.lawful row.key ≡ true) p.rows) (sym is) (separators_lawful kind (root_of levels) way.tree.rest (rise_lawful kind None (map (λ (b : Branch (Tree levels)). b.key) way.tree.rest) way.ordered.0))

  pub picked_child : (lk : kind.lawful key ≡ true) → Picked kind key lk (Whole kind m.pages levels) (root_of levels) (leaves_of levels) way.tree.first way.tree.rest
  picked_child lk =
      pick kind key lk (Whole kind m.pages levels) (root_of levels) (leaves_of levels) None None way.tree.first way.tree.rest
      (record { spelled = way.spelled.1; fits = way.fits.1; ordered = way.ordered.2 })
      (each_whole kind m.pages levels way.tree.rest way.spelled.2 way.fits.2 way.ordered.3)
      way.ordered.1 way.ordered.0
      (keys_lawful kind levels way.tree.first way.ordered.2)
      (each_lawful kind levels way.tree.rest (keys_lawful kind levels) way.ordered.3)

  way_to : (lk : kind.lawful key ≡ true) → Picked kind key lk (Whole kind m.pages levels) (root_of levels) (leaves_of levels) way.tree.first way.tree.rest → (child : ℕ) → child ≡ child_for kind key (root_of levels way.tree.first) (rows_for (root_of levels) way.tree.rest) → Way kind m.pages key all levels child
  way_to lk picked child chosen =
      record {
        tree = picked.child;
        is_root = picked.is_chosen ∙ sym chosen;
        spelled = picked.sound.spelled;
        fits = picked.sound.fits;
        ordered = picked.sound.ordered;
        left = way.left ++ picked.left;
        right = picked.right ++ way.right;
        among = way.among ∙ (ap (λ (ls : List Leaf). way.left ++ (ls ++ way.right)) picked.split ∙ simp append_assoc);
        left_below = all_keys (λ k. below kind k key ≡ true) way.left picked.left way.left_below picked.left_below;
        right_above = all_keys (λ k. below kind key k ≡ true) picked.right way.right picked.right_above way.right_above;
      }

  pub way_on : kind.lawful key ≡ true → (node : InnerNode) (child : ℕ) → inner_of node ≡ inner_page levels way.tree → child ≡ child_for kind key (inner_of node).first (inner_of node).rows → Way kind m.pages key all levels child
  way_on lk node child is chosen = way_to lk (picked_child lk) child (chosen ∙ ap (λ (p : InnerPage). child_for kind key p.first p.rows) is)
