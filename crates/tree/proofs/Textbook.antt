-- A valid tree is a B+-tree: sizes, depths, and children that hold exactly their ranges. Assumes nothing.
use Rattle.std.proofs.Common.{◌≡◌, ℕ, zero, suc, ◌+◌, ◌-◌, ◌<◌, ◌≤◌, Bool, true, false, cond, ◌⊎◌, List, [], ◌∷◌, ◌++◌, map, length, get_or, Some, None, Option, sym, refl, ap, ◌∙◌, subst, inl, inr, ⊎_elim, arith}
use Rattle.std.proofs.ByRecursion.{All-append, All-weaker, All-map, all-has}
use Rattle.std.proofs.lemmas.List.{append-nil, length-map, length-append, get_or_append_left, get_or-append_right}
use Rattle.std.proofs.lemmas.Bool.{both_ways, cases_lt}
use Rattle.std.specs.List.{ContainsAt as Has, flat_map, AllByRecursion, slice_get}
use Rattle.keys.specs.Kinds.{Kind, Field, below}
use Rattle.tree.specs.Trees.{Leaf, Branch, Inner, Tree, each_child, leaves_of, keys_of}
use Rattle.tree.specs.Valid.{Sized, Rise, From, Below, Between, InRange, Ordered}
use Rattle.tree.specs.Textbook.{children_of, separators_of, separator_left_of, separator_right_of, InChildByRange, BPlusLeaf, BPlusInner, BPlusNodes, leaf_depths, ValidTreesAreBPlusTrees}
use Rattle.tree.proofs.Everywhere.{all_both}
use Rattle.tree.proofs.Rising.{Lawful, from_lower, keys_from, all_from, keys_of_children, keys_rise, keys_lawful}

-- an element of two lists put together stands in one of them
pub has_append_cases : {X : Type 0} (xs ys : List X) (x : X) → Has (xs ++ ys) x → Has xs x ⊎ Has ys x
has_append_cases xs ys x has = go (cases_lt has.0 (length xs))
  where
    go : (has.0 < length xs) ⊎ (length xs ≤ has.0) → Has xs x ⊎ Has ys x
    go (inl front) = inl (has.0, front, λ d. sym (get_or_append_left xs ys d has.0 front) ∙ has.2 d)
    go (inr back) =
        inr (has.0 - length xs, (let within = has.1 in omega (arith, length-append xs ys)), λ d. sym (get_or-append_right xs ys (length xs) has.0 d refl back) ∙ has.2 d)

-- the separator left of child i, where one may stand left of them all
abbrev left_from : Option Field → List Field → ℕ → Option Field
left_from low separators zero = low
left_from low separators (suc i) = slice_get separators i

left_next : (separator : Field) (separators : List Field) (i : ℕ) → slice_get (separator ∷ separators) i ≡ left_from (Some separator) separators i
left_next separator separators zero = refl
left_next separator separators (suc i) = refl

module _ (kind : Kind) where
  -- a key from a separator on lies from all separators left of it on
  from_leftmost : (bound : Field) (separators : List Field) (i : ℕ) (key : Field) → i < suc (length separators) → Lawful kind bound → Lawful kind key → Rise kind (Some bound) separators → From kind (left_from (Some bound) separators i) key → below kind key bound ≡ false
  from_leftmost bound separators zero key within lb lk rise from = from
  from_leftmost bound [] (suc i) key within lb lk rise from = absurd (omega arith)
  from_leftmost bound (separator ∷ separators) (suc i) key within lb lk rise from =
      let next = from_leftmost separator separators i key (omega arith) rise.0 lk rise.2 (subst (λ (left : Option Field). From kind left key) (left_next separator separators i) from) in
      from_lower kind (Some bound) separator key lb rise.0 lk rise.1 next

  module _ {X : Type 0} (keys : X → List Field) where
    abbrev separators : List (Branch X) → List Field
    separators rest = map (λ (branch : Branch X). branch.key) rest

    abbrev children : X → List (Branch X) → List X
    children child rest = child ∷ map (λ (branch : Branch X). branch.child) rest

    range_at : (low : Option Field) (child : X) (rest : List (Branch X)) (i : ℕ) (d : X) → i < suc (length rest) → InRange kind keys low child rest → Between kind (left_from low (separators rest) i) (slice_get (separators rest) i) (keys (get_or (children child rest) i d))
    range_at low child [] zero d within range = range
    range_at low child [] (suc i) d within range = absurd (omega arith)
    range_at low child (branch ∷ rest) zero d within range = range.0
    range_at low child (branch ∷ rest) (suc i) d within range =
        subst (λ (left : Option Field). Between kind left (slice_get (separators rest) i) (keys (get_or (children branch.child rest) i d))) (sym (left_next branch.key (separators rest) i)) (range_at (Some branch.key) branch.child rest i d (omega arith) range.1)

    -- a key of the node that lies in the range of child i stands in child i: any other child's range excludes it
    held_at : (low : Option Field) (child : X) (rest : List (Branch X)) (i : ℕ) (d : X) (key : Field) → i < suc (length rest) → Lawful kind key → Rise kind low (separators rest) → InRange kind keys low child rest → AllByRecursion (λ (branch : Branch X). AllByRecursion (Lawful kind) (keys branch.child)) rest → Has (keys_from kind keys child rest) key → From kind (left_from low (separators rest) i) key → Below kind (slice_get (separators rest) i) key → Has (keys (get_or (children child rest) i d)) key
    held_at low child [] zero d key within lk rise range lawful has from under = rw (append-nil (keys child)) at has
    held_at low child [] (suc i) d key within lk rise range lawful has from under = absurd (omega arith)
    held_at low child (branch ∷ rest) zero d key within lk rise range lawful has from under =
        ⊎_elim (λ here. here)
        (λ later. absurd (both_ways (below kind key branch.key) (all-has (λ k. Lawful kind k × From kind (Some branch.key) k) (keys_from kind keys branch.child rest) key (all_from kind keys (Some branch.key) branch.child rest rise.0 rise.2 range.1 lawful.0 lawful.1) later).1 under))
        (has_append_cases (keys child) (keys_from kind keys branch.child rest) key has)
    held_at low child (branch ∷ rest) (suc i) d key within lk rise range lawful has from under =
        let from' = subst (λ (left : Option Field). From kind left key) (left_next branch.key (separators rest) i) from in
        ⊎_elim (λ here. absurd (both_ways (below kind key branch.key) (from_leftmost branch.key (separators rest) i key (let same = length-map rest (λ (b : Branch X). b.key) in omega arith) rise.0 lk rise.2 from') (all-has (λ k. From kind low k × Below kind (Some branch.key) k) (keys child) key range.0 here).1))
        (λ later. held_at (Some branch.key) branch.child rest i d key (omega arith) lk rise.2 range.1 lawful.1 later from' under)
        (has_append_cases (keys child) (keys_from kind keys branch.child rest) key has)

left_of : {X : Type 0} (i : ℕ) (node : Inner X) → separator_left_of i node ≡ left_from None (separators_of node) i
left_of zero node = refl
left_of (suc i) node = refl

children_exact : (kind : Kind) (levels : ℕ) (node : Tree (suc levels)) → Ordered kind (suc levels) node → (i : ℕ) (key : Field) → i < length (children_of node) → Has (keys_of (suc levels) node) key → InChildByRange kind (separator_left_of i node) (separator_right_of i node) (keys_of levels (get_or (children_of node) i node.first)) key
children_exact kind levels node ordered i key within has =
    let many : i < suc (length node.rest) = let same = length-map node.rest (λ (branch : Branch (Tree levels)). branch.child) in omega arith in
    let lawful : Lawful kind key = all-has (Lawful kind) (keys_of (suc levels) node) key (keys_lawful kind (suc levels) node ordered) has in
    let each = All-weaker (λ (branch : Branch (Tree levels)). Ordered kind levels branch.child) (λ (branch : Branch (Tree levels)). AllByRecursion (Lawful kind) (keys_of levels branch.child)) (λ branch h. keys_lawful kind levels branch.child h) node.rest ordered.3 in
    let together : Has (each_child (keys_of levels) node) key = subst (λ (keys : List Field). Has keys key) (keys_of_children levels node) has in
    let left = left_of i node in
    let range = range_at kind (keys_of levels) None node.first node.rest i node.first many ordered.1 in
    subst (λ (low : Option Field). InChildByRange kind low (separator_right_of i node) (keys_of levels (get_or (children_of node) i node.first)) key) (sym left)
    (record {
      held_if_in_range = held_at kind (keys_of levels) None node.first node.rest i node.first key many lawful ordered.0 ordered.1 each together;
      in_range_if_held = all-has (λ k. From kind (left_from None (separators_of node) i) k × Below kind (separator_right_of i node) k) (keys_of levels (get_or (children_of node) i node.first)) key range;
    })

-- how many children and entries there are
fewest : (root : Bool) (as_root other n : ℕ) → cond root as_root other ≤ n → root ≡ false → other ≤ n
fewest root as_root other n h e = omega (arith, sym (ap (λ (b : Bool). cond b as_root other) e))

at_least_two : (root : Bool) (n : ℕ) → cond root 2 8 ≤ n → 2 ≤ n
at_least_two true n h = h
at_least_two false n h = omega arith

a_leaf : (kind : Kind) (root : Bool) (leaf : Leaf) → Sized root zero leaf → Ordered kind zero leaf → BPlusLeaf kind root leaf
a_leaf kind root leaf sized ordered =
    record { at_most_8_entries = sized.1; at_least_4_entries_unless_root = fewest root 0 4 (length leaf.entries) sized.0; keys_rise = ordered }

an_inner_node : (kind : Kind) (root : Bool) (levels : ℕ) (node : Tree (suc levels)) → Sized root (suc levels) node → Ordered kind (suc levels) node → BPlusInner kind root levels node
an_inner_node kind root levels node sized ordered =
    let children = length-map node.rest (λ (branch : Branch (Tree levels)). branch.child) in
    let separators = length-map node.rest (λ (branch : Branch (Tree levels)). branch.key) in
    record {
      at_most_16_children = let h = sized.1 in omega arith;
      at_least_8_children_unless_root = λ e. let h = fewest root 2 8 (1 + length node.rest) sized.0 e in omega arith;
      at_least_2_children = let h = at_least_two root (1 + length node.rest) sized.0 in omega arith;
      one_separator_less_than_children = omega arith;
      separators_rise = ordered.0;
      children_hold_exactly_their_ranges = children_exact kind levels node ordered;
    }

b_plus_nodes : (kind : Kind) (root : Bool) (levels : ℕ) (tree : Tree levels) → Sized root levels tree → Ordered kind levels tree → BPlusNodes kind root levels tree
b_plus_nodes kind root zero leaf sized ordered = a_leaf kind root leaf sized ordered
b_plus_nodes kind root (suc levels) node sized ordered = (
  an_inner_node kind root levels node sized ordered,
  (
    b_plus_nodes kind false levels node.first sized.2 ordered.2,
    All-map (BPlusNodes kind false levels) (λ (branch : Branch (Tree levels)). branch.child) node.rest
        (All-weaker (λ (branch : Branch (Tree levels)). Sized false levels branch.child × Ordered kind levels branch.child) (λ (branch : Branch (Tree levels)). BPlusNodes kind false levels branch.child) (λ branch h. b_plus_nodes kind false levels branch.child h.0 h.1) node.rest
        (all_both (λ (branch : Branch (Tree levels)). Sized false levels branch.child) (λ (branch : Branch (Tree levels)). Ordered kind levels branch.child) node.rest sized.3 ordered.3)),
  ),
)

-- the depths of leaves
all_joined : {X Y : Type 0} (P : Y → Type 0) (f : X → List Y) (xs : List X) → ((x : X) → AllByRecursion P (f x)) → AllByRecursion P (flat_map f xs)
all_joined P f [] each = tt
all_joined P f (x ∷ xs) each = All-append P (f x) (flat_map f xs) (each x) (all_joined P f xs each)

depths_agree : (levels : ℕ) (tree : Tree levels) → AllByRecursion (λ (depth : ℕ). depth ≡ levels) (leaf_depths levels tree)
depths_agree zero leaf = (refl, tt)
depths_agree (suc levels) node =
    let f : Branch (Tree levels) → List ℕ = λ (branch : Branch (Tree levels)). leaf_depths levels branch.child in
    All-map (λ (depth : ℕ). depth ≡ suc levels) suc (each_child (leaf_depths levels) node)
    (All-append (λ (depth : ℕ). suc depth ≡ suc levels) (leaf_depths levels node.first) (flat_map f node.rest)
    (All-weaker (λ (depth : ℕ). depth ≡ levels) (λ (depth : ℕ). suc depth ≡ suc levels) (λ depth e. ap suc e) (leaf_depths levels node.first) (depths_agree levels node.first))
    (all_joined (λ (depth : ℕ). suc depth ≡ suc levels) f node.rest (λ branch. All-weaker (λ (depth : ℕ). depth ≡ levels) (λ (depth : ℕ). suc depth ≡ suc levels) (λ depth e. ap suc e) (f branch) (depths_agree levels branch.child))))

joined_as_long : {X A B : Type 0} (f : X → List A) (g : X → List B) (xs : List X) → ((x : X) → length (f x) ≡ length (g x)) → length (flat_map f xs) ≡ length (flat_map g xs)
joined_as_long f g [] same = refl
joined_as_long f g (x ∷ xs) same =
    let ih = joined_as_long f g xs same in
    let here = same x in
    omega (arith, length-append (f x) (flat_map f xs), length-append (g x) (flat_map g xs))

a_depth_for_each : (levels : ℕ) (tree : Tree levels) → length (leaf_depths levels tree) ≡ length (leaves_of levels tree)
a_depth_for_each zero leaf = refl
a_depth_for_each (suc levels) node =
    let f : Branch (Tree levels) → List ℕ = λ (branch : Branch (Tree levels)). leaf_depths levels branch.child in
    let g : Branch (Tree levels) → List Leaf = λ (branch : Branch (Tree levels)). leaves_of levels branch.child in
    let first = a_depth_for_each levels node.first in
    let rest = joined_as_long f g node.rest (λ branch. a_depth_for_each levels branch.child) in
    omega (arith, length-map (each_child (leaf_depths levels) node) suc, length-append (leaf_depths levels node.first) (flat_map f node.rest), length-append (leaves_of levels node.first) (flat_map g node.rest))

pub valid_is_b_plus : ValidTreesAreBPlusTrees
valid_is_b_plus kind pages entries valid =
    let levels = valid.levels in
    let tree = valid.tree in
    record {
      every_node_keeps_the_rules = b_plus_nodes kind true levels tree valid.sizes_fit valid.keys_are_in_order;
      each_leaf_has_a_depth = a_depth_for_each levels tree;
      leaves_are_equally_deep = depths_agree levels tree;
      keys_rise_from_leaf_to_leaf = keys_rise kind levels tree valid.keys_are_in_order;
      leaves_are_linked = valid.leaves_are_linked;
    }
