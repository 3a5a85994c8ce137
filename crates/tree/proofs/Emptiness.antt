-- Below a root every leaf has entries, so a tree of no entries is one leaf. Assumes nothing.
use Rattle.std.proofs.Common.{◌≡◌, ℕ, zero, suc, ◌≤◌, true, false, List, [], length, refl, ap, arith}
use Rattle.std.proofs.lemmas.List.{length-append, length-map, nil_from_length}
use Rattle.std.specs.List.{flat_map}
use Rattle.tree.specs.Trees.{EntryAt, Branch, Tree, entries_of, node_pages, chain_pages, held}
use Rattle.tree.specs.Valid.{Sized}
use Rattle.tree.specs.Empty.{EmptyTreesAreOneLeaf}
use Rattle.tree.proofs.Highest.{in_use_or_free}
use Rattle.tree.proofs.Rising.{entries_of_children}

-- the first child's entries are among the node's
first_among : (levels : ℕ) (node : Tree (suc levels)) → length (entries_of levels node.first) ≤ length (entries_of (suc levels) node)
first_among levels node =
    let all = ap length (entries_of_children levels node) in
    omega (arith, length-append (entries_of levels node.first) (flat_map (λ (branch : Branch (Tree levels)). entries_of levels branch.child) node.rest))

some_entry : (levels : ℕ) (tree : Tree levels) → Sized false levels tree → 1 ≤ length (entries_of levels tree)
some_entry zero leaf sized = let h = sized.0 in omega (arith, length-append leaf.entries [])
some_entry (suc levels) node sized = let ih = some_entry levels node.first sized.2 in omega (arith, first_among levels node)

root_alone : (levels : ℕ) (tree : Tree levels) → Sized true levels tree → length (entries_of levels tree) ≡ 0 → levels ≡ 0
root_alone zero leaf sized none = refl
root_alone (suc levels) node sized none = absurd (let h = some_entry levels node.first sized.2 in omega (arith, first_among levels node))

one_page : (levels : ℕ) (tree : Tree levels) → levels ≡ 0 → length (node_pages levels tree) ≡ 1
one_page zero leaf e = refl
one_page (suc levels) node e = absurd (omega arith)

pub empty_is_one_leaf : EmptyTreesAreOneLeaf
empty_is_one_leaf kind pages valid =
    let levels = valid.levels in
    let tree = valid.tree in
    let none : length (entries_of valid.levels valid.tree) ≡ 0 = let e = ap length valid.holds_the_entries in omega (arith, length-map (entries_of levels tree) held) in
    let alone = root_alone levels tree valid.sizes_fit none in
    let node = one_page levels tree alone in
    let records : length (flat_map chain_pages (entries_of valid.levels valid.tree)) ≡ 0 = ap (λ (entries : List EntryAt). length (flat_map chain_pages entries)) (nil_from_length (entries_of levels tree) none) in
    let used = in_use_or_free kind pages [] valid in
    record { root_is_a_leaf = alone; one_node = node; no_record_page = records; all_but_two_pages_are_free = omega arith }
