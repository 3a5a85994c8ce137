-- The fewest leaves of a tree, and so the highest tree. Assumes nothing.
use Rattle.std.proofs.Common.{ℕ, zero, suc, ◌+◌, ◌*◌, ◌^◌, ◌<◌, ◌≤◌, true, false, List, [], ◌∷◌, length, ⊎_elim, zero-lt-suc, mul-le-mul_left, pow-suc, mul-zero, mul-suc, arith, length-append}
use native.Mathlib.Nat.{pow-le-pow_right}
use Rattle.std.proofs.lemmas.Bool.{cases_lt}
use Rattle.std.specs.List.{flat_map, AllByRecursion}
use Rattle.keys.specs.Kinds.{Kind}
use Rattle.book.specs.Entries.{Entries}
use Rattle.tree.specs.Trees.{Branch, Inner, Tree, each_child, leaves_of, node_pages}
use Rattle.tree.specs.Valid.{Pages, Sized, reached_pages, Valid}
use Rattle.tree.specs.Heights.{HeightSevenNeeds65536Leaves, HeightIsAtMostSix}
use Rattle.tree.proofs.Tallies.{fits_below, fills}
use Rattle.tree.specs.Counts.{PagesAreInUseOrFree}

-- lists of at least so many, joined
joined_least : {X A : Type 0} (f : X → List A) (least : ℕ) (xs : List X) → AllByRecursion (λ x. least ≤ length (f x)) xs → least * length xs ≤ length (flat_map f xs)
joined_least f least [] all = omega (arith, mul-zero least)
joined_least f least (x ∷ xs) all =
    let ih = joined_least f least xs all.1 in
    let here = all.0 in
    omega (arith, mul-suc least (length xs), length-append (f x) (flat_map f xs))

children_least : {X A : Type 0} (f : X → List A) (least : ℕ) (node : Inner X) → least ≤ length (f node.first) → AllByRecursion (λ (branch : Branch X). least ≤ length (f branch.child)) node.rest → least + least * length node.rest ≤ length (each_child f node)
children_least f least node first rest =
    let ih = joined_least (λ (branch : Branch _). f branch.child) least node.rest rest in
    omega (arith, length-append (f node.first) (flat_map (λ branch. f branch.child) node.rest))

module _ (levels : ℕ) where
  each_least : (least : ℕ) (branches : List (Branch (Tree levels))) → ((tree : Tree levels) → Sized false levels tree → least ≤ length (leaves_of levels tree)) → AllByRecursion (λ (branch : Branch (Tree levels)). Sized false levels branch.child) branches → AllByRecursion (λ (branch : Branch (Tree levels)). least ≤ length (leaves_of levels branch.child)) branches
  each_least least [] fewest all = tt
  each_least least (branch ∷ branches) fewest all = (fewest branch.child all.0, each_least least branches fewest all.1)

-- below the root every node has eight children or more
fewest_leaves : (levels : ℕ) (tree : Tree levels) → Sized false levels tree → 8 ^ levels ≤ length (leaves_of levels tree)
fewest_leaves zero tree sized = omega arith
fewest_leaves (suc levels) tree sized =
    let least = 8 ^ levels in
    let all = children_least (leaves_of levels) least tree (fewest_leaves levels tree.first sized.2) (each_least levels least tree.rest (fewest_leaves levels) sized.3) in
    let seven : 7 ≤ length tree.rest = let s = sized.0 in omega arith in
    omega (arith, pow-suc 8 levels, mul-le-mul_left least seven)

-- and the root has two or more
fewest_under_a_root : (levels : ℕ) (tree : Tree (suc levels)) → Sized true (suc levels) tree → 2 * 8 ^ levels ≤ length (leaves_of (suc levels) tree)
fewest_under_a_root levels tree sized =
    let least = 8 ^ levels in
    let all = children_least (leaves_of levels) least tree (fewest_leaves levels tree.first sized.2) (each_least levels least tree.rest (fewest_leaves levels) sized.3) in
    let one : 1 ≤ length tree.rest = let s = sized.0 in omega arith in
    omega (arith, mul-le-mul_left least one)

pub seven_levels : HeightSevenNeeds65536Leaves
seven_levels tree sized = fewest_under_a_root 5 tree sized

-- every leaf has a page
joined_longer : {X A B : Type 0} (f : X → List A) (g : X → List B) (xs : List X) → ((x : X) → length (f x) ≤ length (g x)) → length (flat_map f xs) ≤ length (flat_map g xs)
joined_longer f g [] longer = omega arith
joined_longer f g (x ∷ xs) longer =
    let ih = joined_longer f g xs longer in
    let here = longer x in
    omega (arith, length-append (f x) (flat_map f xs), length-append (g x) (flat_map g xs))

pub leaves_have_pages : (levels : ℕ) (tree : Tree levels) → length (leaves_of levels tree) ≤ length (node_pages levels tree)
leaves_have_pages zero tree = omega arith
leaves_have_pages (suc levels) tree =
    let f = leaves_of levels in
    let g = node_pages levels in
    let here = leaves_have_pages levels tree.first in
    let rest = joined_longer (λ (branch : Branch (Tree levels)). f branch.child) (λ (branch : Branch (Tree levels)). g branch.child) tree.rest (λ branch. leaves_have_pages levels branch.child) in
    omega (arith, length-append (f tree.first) (flat_map (λ (branch : Branch (Tree levels)). f branch.child) tree.rest), length-append (g tree.first) (flat_map (λ (branch : Branch (Tree levels)). g branch.child) tree.rest))

-- nodes and the header fit on the pages
nodes_fit : (kind : Kind) (pages : Pages) (entries : Entries) (valid : Valid kind pages entries) → 1 + length (node_pages valid.levels valid.tree) ≤ length pages
nodes_fit kind pages entries valid =
    let levels = valid.levels in
    let all = fits_below (length pages) (reached_pages levels valid.tree valid.free) (λ p. let e = valid.each_page_is_reached_once p in omega arith) in
    omega (arith, simp length-append at all)

too_high : (levels : ℕ) (tree : Tree levels) → Sized true levels tree → 5 < levels → 65536 ≤ length (leaves_of levels tree)
too_high zero tree sized high = absurd (omega arith)
too_high (suc levels) tree sized high =
    let five : 5 ≤ levels = omega arith in
    let most : 8 ^ 5 ≤ 8 ^ levels = pow-le-pow_right (zero-lt-suc 7) five in
    omega (arith, fewest_under_a_root levels tree sized)

pub at_most_six : HeightIsAtMostSix
at_most_six kind pages entries valid few =
    ⊎_elim (λ high. absurd (let a = too_high valid.levels valid.tree valid.sizes_fit high in let b = leaves_have_pages valid.levels valid.tree in let d = nodes_fit kind pages entries valid in omega arith)) (λ low. omega arith) (cases_lt 5 valid.levels)

pub in_use_or_free : PagesAreInUseOrFree
in_use_or_free kind pages entries valid =
    let all = fills (length pages) (reached_pages valid.levels valid.tree valid.free) valid.each_page_is_reached_once in
    omega (arith, simp length-append at all)
