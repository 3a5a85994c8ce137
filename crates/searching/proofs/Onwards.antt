-- The loop of the way down: what it keeps, and where it ends. Assumes nothing.
use Rattle.std.proofs.Common.{◌≡◌, ℕ, zero, suc, ◌+◌, ◌<◌, ◌≤◌, true, List, Some, Ok, Err, Option, Result, sym, ap, ◌∙◌, subst, arith, MatchResult}
use Rattle.std.specs.List.{AllByRecursion}
use Rattle.refusals.specs.declared.Refusal.{Refusal}
use Rattle.page_store.specs.Meanings.{Meaning, Live, count_of, page_at}
use Rattle.keys.specs.Kinds.{Kind, Field}
use Rattle.nodes.specs.declared.inner.InnerNode.{InnerNode}
use Rattle.nodes.specs.declared.leaf.Leaf.{Leaf as LeafRead}
use Rattle.nodes.specs.Layout.{InnerRow, inner_image, InnerFits, leaf_image, LeafFits}
use Rattle.nodes.specs.Meanings.{inner_of, leaf_of}
use Rattle.book.specs.Entries.{Entries}
use Rattle.tree.specs.Trees.{Leaf, root_of, leaves_of}
use Rattle.tree.specs.Valid.{Valid}
use Rattle.tree.proofs.Fitting.{inner_page, leaf_page}
use Rattle.searching.specs.declared.arrival.Descent.{Descent}
use Rattle.searching.specs.NodeReads.{NodeRead}
use Rattle.searching.specs.Descents.{child_for, Arrives}
use Rattle.searching.proofs.ReadValues.{read_value, read_never_refused}
use Rattle.searching.proofs.Descending.{Way, way_from_the_root, holds_the_node, node_fits, node_rows_lawful, way_on}

-- what is asked of a valid tree for its way down
pub record Asked (kind : Kind) (m : Meaning) (key : Field) (root height : ℕ) (entries : Entries) (valid : Valid kind m.pages entries) : Type 0 where
  pub few : count_of m ≤ 65536
  pub from_its_root : root ≡ root_of valid.levels valid.tree
  pub of_its_height : height ≡ suc valid.levels
  pub lawful : kind.lawful key ≡ true

pub record Onward (kind : Kind) (m : Meaning) (key : Field) (root height level page : ℕ) : Type 0 where
  pub leads : (entries : Entries) (valid : Valid kind m.pages entries) → Asked kind m key root height entries valid
      → (k : ℕ) × (level + k ≡ height) × Way kind m.pages key (leaves_of valid.levels valid.tree) k page

pub onward_start : (kind : Kind) (m : Meaning) (key : Field) (root height : ℕ) → Onward kind m key root height 1 root
onward_start kind m key root height =
    record { leads = λ entries valid asked. (valid.levels, (let h = asked.of_its_height in omega arith), way_from_the_root kind m.pages key entries valid asked.few root asked.from_its_root) }

-- a level above the leaves has an inner node
further : (kind : Kind) (m : Meaning) (key : Field) (all : List Leaf) (level height page : ℕ) → level < height → (k : ℕ) × (level + k ≡ height) × Way kind m.pages key all k page → (k : ℕ) × (level + suc k ≡ height) × Way kind m.pages key all (suc k) page
further kind m key all level height page h (zero, e, way) = absurd (omega arith)
further kind m key all level height page h (suc k, e, way) = (k, e, way)

last : (kind : Kind) (m : Meaning) (key : Field) (all : List Leaf) (level height page : ℕ) → height ≤ level → (k : ℕ) × (level + k ≡ height) × Way kind m.pages key all k page → Way kind m.pages key all 0 page
last kind m key all level height page h (zero, e, way) = way
last kind m key all level height page h (suc k, e, way) = absurd (omega arith)

module _ (kind : Kind) (m : Meaning) (key : Field) (root height level page : ℕ) (onward : Onward kind m key root height level page) where
  module _ (entries : Entries) (valid : Valid kind m.pages entries) (asked : Asked kind m key root height entries valid) where
    -- while there are levels left
    pub node_is_read : level < height → (refusal : Refusal) (r : Result InnerNode Refusal) → NodeRead inner_image InnerFits inner_of m page r → r ≡ Err refusal → ⊥
    node_is_read h refusal (Ok x) read e = let z : ◌≡◌ {A = ℕ} 0 1 = cc in omega arith
    node_is_read h refusal (Err other) read e =
        let w = further kind m key (leaves_of valid.levels valid.tree) level height page h (onward.leads entries valid asked) in
        read_never_refused inner_image InnerFits inner_of m page (inner_page w.0 w.2.tree) (node_fits kind m key (leaves_of valid.levels valid.tree) w.0 page w.2) (holds_the_node kind m key (leaves_of valid.levels valid.tree) w.0 page w.2) other read

    node_is : (w : (k : ℕ) × (level + suc k ≡ height) × Way kind m.pages key (leaves_of valid.levels valid.tree) (suc k) page) (node : InnerNode) (r : Result InnerNode Refusal) → NodeRead inner_image InnerFits inner_of m page r → r ≡ Ok node → inner_of node ≡ inner_page w.0 w.2.tree
    node_is w node (Ok x) read e =
        let same : x ≡ node = cc in
        ap inner_of (sym same) ∙ read_value inner_image InnerFits inner_of m page (inner_page w.0 w.2.tree) (node_fits kind m key (leaves_of valid.levels valid.tree) w.0 page w.2) (holds_the_node kind m key (leaves_of valid.levels valid.tree) w.0 page w.2) x read
    node_is w node (Err other) read e = absurd (let z : ◌≡◌ {A = ℕ} 0 1 = cc in omega arith)

    pub child_is_chosen : level < height → (node : InnerNode) (r : Result InnerNode Refusal) → NodeRead inner_image InnerFits inner_of m page r → r ≡ Ok node → (chosen : Option ℕ)
        → (kind.lawful key ≡ true → AllByRecursion (λ (row : InnerRow). kind.lawful row.key ≡ true) (inner_of node).rows → chosen ≡ Some (child_for kind key (inner_of node).first (inner_of node).rows))
        → chosen ≡ Some (child_for kind key (inner_of node).first (inner_of node).rows)
    child_is_chosen h node r read e chosen chose =
        let w = further kind m key (leaves_of valid.levels valid.tree) level height page h (onward.leads entries valid asked) in
        chose asked.lawful (node_rows_lawful kind m key (leaves_of valid.levels valid.tree) w.0 page w.2 node (node_is w node r read e))

    on_way : level < height → (node : InnerNode) (r : Result InnerNode Refusal) → NodeRead inner_image InnerFits inner_of m page r → r ≡ Ok node → (child : ℕ) → child ≡ child_for kind key (inner_of node).first (inner_of node).rows
        → (k : ℕ) × ((level + 1) + k ≡ height) × Way kind m.pages key (leaves_of valid.levels valid.tree) k child
    on_way h node r read e child is =
        let w = further kind m key (leaves_of valid.levels valid.tree) level height page h (onward.leads entries valid asked) in
        let there = w.1 in
        (w.0, omega arith, way_on kind m key (leaves_of valid.levels valid.tree) w.0 page w.2 asked.lawful node child (node_is w node r read e) is)

  pub onward_more : level < height → (node : InnerNode) (r : Result InnerNode Refusal) → NodeRead inner_image InnerFits inner_of m page r → r ≡ Ok node → (chosen : Option ℕ) (child : ℕ) → chosen ≡ Some child
      → (kind.lawful key ≡ true → AllByRecursion (λ (row : InnerRow). kind.lawful row.key ≡ true) (inner_of node).rows → chosen ≡ Some (child_for kind key (inner_of node).first (inner_of node).rows))
      → Onward kind m key root height (level + 1) child
  onward_more h node r read e chosen child c chose =
      record {
        leads = λ entries valid asked.
            let is = child_is_chosen entries valid asked h node r read e chosen chose in
            let same : child ≡ child_for kind key (inner_of node).first (inner_of node).rows = cc in
            on_way entries valid asked h node r read e child same;
      }

  module _ (past : height ≤ level) (entries : Entries) (valid : Valid kind m.pages entries) (asked : Asked kind m key root height entries valid) where
    arrival : Way kind m.pages key (leaves_of valid.levels valid.tree) 0 page
    arrival = last kind m key (leaves_of valid.levels valid.tree) level height page past (onward.leads entries valid asked)

    holds_the_leaf : (way : Way kind m.pages key (leaves_of valid.levels valid.tree) 0 page) → page_at m page ≡ Live (leaf_image (leaf_page way.tree))
    holds_the_leaf way = ap (page_at m) (sym way.is_root) ∙ way.spelled.0

    pub leaf_is_read : (refusal : Refusal) (r : Result LeafRead Refusal) → NodeRead leaf_image LeafFits leaf_of m page r → r ≡ Err refusal → ⊥
    leaf_is_read refusal (Ok x) read e = let z : ◌≡◌ {A = ℕ} 0 1 = cc in omega arith
    leaf_is_read refusal (Err other) read e = read_never_refused leaf_image LeafFits leaf_of m page (leaf_page arrival.tree) arrival.fits.0 (holds_the_leaf arrival) other read

    leaf_is : (leaf : LeafRead) (r : Result LeafRead Refusal) → NodeRead leaf_image LeafFits leaf_of m page r → r ≡ Ok leaf → leaf_of leaf ≡ leaf_page arrival.tree
    leaf_is leaf (Ok x) read e =
        let same : x ≡ leaf = cc in
        ap leaf_of (sym same) ∙ read_value leaf_image LeafFits leaf_of m page (leaf_page arrival.tree) arrival.fits.0 (holds_the_leaf arrival) x read
    leaf_is leaf (Err other) read e = absurd (let z : ◌≡◌ {A = ℕ} 0 1 = cc in omega arith)

    pub arrives : (descent : Descent) (r : Result LeafRead Refusal) → NodeRead leaf_image LeafFits leaf_of m page r → r ≡ Ok descent.leaf → descent.reads ≡ level → Arrives valid key descent
    arrives descent r read e reads =
        record {
          left = arrival.left;
          leaf = arrival.tree;
          right = arrival.right;
          is_among_the_leaves = arrival.among;
          was_read = leaf_is descent.leaf r read e;
          left_lies_below = arrival.left_below;
          right_lies_above = arrival.right_above;
          one_read_a_level = (let there = (onward.leads entries valid asked).1 in let high = asked.of_its_height in omega arith);
        }

-- what the way down promises, of the store as it was before the header was read
pub relayed : (kind : Kind) (m after : Meaning) (key : Field) (root height : ℕ) (r : Result Descent Refusal) → after ≡ m
    → ((entries : Entries) (valid : Valid kind after.pages entries) → count_of after ≤ 65536 → root ≡ root_of valid.levels valid.tree → height ≡ suc valid.levels → kind.lawful key ≡ true → MatchResult r (Arrives valid key) (λ _. ⊥))
    → (entries : Entries) (valid : Valid kind m.pages entries) → count_of m ≤ 65536 → root ≡ root_of valid.levels valid.tree → height ≡ suc valid.levels → kind.lawful key ≡ true → MatchResult r (Arrives valid key) (λ _. ⊥)
relayed kind m after key root height r same promise =
    subst (λ (k : Meaning). (entries : Entries) (valid : Valid kind k.pages entries) → count_of k ≤ 65536 → root ≡ root_of valid.levels valid.tree → height ≡ suc valid.levels → kind.lawful key ≡ true → MatchResult r (Arrives valid key) (λ _. ⊥)) same promise
