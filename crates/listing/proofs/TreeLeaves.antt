-- The leaves of a valid tree from any of them on can be read one after another. Assumes nothing.
use Rattle.std.proofs.Common.{◌≡◌, ◌<◌, ◌≤◌, List, [], ◌∷◌, ◌++◌, length, None, subst, arith}
use Rattle.std.specs.List.{flat_map, AllByRecursion}
use Rattle.std.proofs.lemmas.List.{length-append}
use Rattle.keys.specs.Kinds.{Kind}
use Rattle.book.specs.Entries.{Entries}
use Rattle.tree.specs.Trees.{EntryAt, Leaf, leaves_of, chain_pages}
use Rattle.tree.specs.Valid.{Pages, head_of, SpellChain, Rise, Linked, Valid}
use Rattle.tree.proofs.Everywhere.{all_back, all_parts}
use Rattle.tree.proofs.Fitting.{ChainFits, Linkable, node_pages_linkable, leaves_among_nodes, fewer_than_pages}
use Rattle.tree.proofs.Highest.{leaves_have_pages}
use Rattle.std.proofs.lemmas.List.Concat.{flat_map-append}
use Rattle.tree.proofs.Rising.{keys_rise}
use Rattle.searching.proofs.Leaves.{LeafWhole, leaves_whole}
use Rattle.searching.proofs.Chained.{chain_from, chains_linkable, chains_short}
use Rattle.listing.specs.Readable.{ReadableChain, ReadableLeaf, ReadableLeaves}
use Rattle.listing.proofs.InRange.{keys_at, rise_back}

-- chains, entry by entry
chains_readable : (pages : Pages) (entries : List EntryAt) → AllByRecursion (λ (entry : EntryAt). SpellChain pages entry.records) entries → AllByRecursion (λ (entry : EntryAt). ChainFits entry.records) entries → AllByRecursion (λ (entry : EntryAt). AllByRecursion (Linkable (length pages)) (chain_pages entry)) entries → AllByRecursion (λ (entry : EntryAt). length entry.records < length pages) entries
    → AllByRecursion (λ (entry : EntryAt). ReadableChain pages (head_of entry.records) entry.records) entries
chains_readable pages [] spelled fits linkable short = tt
chains_readable pages (entry ∷ entries) spelled fits linkable short = (
  record { starts_there = chain_from pages (length pages) entry.records spelled.0 fits.0 linkable.0; fewer_than_pages = short.0 },
  chains_readable pages entries spelled.1 fits.1 linkable.1 short.1,
)

-- leaf by leaf
leaves_readable : (kind : Kind) (pages : Pages) (leaves : List Leaf) → AllByRecursion (LeafWhole kind pages) leaves → AllByRecursion (λ (leaf : Leaf). Linkable (length pages) leaf.page) leaves
    → AllByRecursion (λ (leaf : Leaf). AllByRecursion (λ (entry : EntryAt). AllByRecursion (Linkable (length pages)) (chain_pages entry)) leaf.entries) leaves → AllByRecursion (λ (leaf : Leaf). AllByRecursion (λ (entry : EntryAt). length entry.records < length pages) leaf.entries) leaves
    → AllByRecursion (ReadableLeaf pages) leaves
leaves_readable kind pages [] whole placed linkable short = tt
leaves_readable kind pages (leaf ∷ leaves) whole placed linkable short = (
  record {
    stands = record { not_on_page_0 = placed.0.0; is_held = whole.0.spelled.0; fits = whole.0.fits.0 };
    chains_are_readable = chains_readable pages leaf.entries whole.0.spelled.1 whole.0.fits.1 linkable.0 short.0;
  },
  leaves_readable kind pages leaves whole.1 placed.1 linkable.1 short.1,
)

linked_back : (a b : List Leaf) → Linked (a ++ b) → Linked b
linked_back [] b linked = linked
linked_back (leaf ∷ a) b linked = linked_back a b linked.1

-- what can be read of all leaves can be read of those right of some
back_readable : (kind : Kind) (pages : Pages) (left right : List Leaf) → ReadableLeaves kind pages (left ++ right) → ReadableLeaves kind pages right
back_readable kind pages left right all =
    let entries : Leaf → List EntryAt = λ (leaf : Leaf). leaf.entries in
    let apart : Rise kind None (keys_at (flat_map (λ (leaf : Leaf). leaf.entries) left ++ flat_map (λ (leaf : Leaf). leaf.entries) right)) = subst (λ (es : List EntryAt). Rise kind None (keys_at es)) (flat_map-append entries left right) all.keys_rise in
    let few = all.no_more_than_pages in
    record {
      each_is_readable = all_back (ReadableLeaf pages) left right all.each_is_readable;
      are_linked = linked_back left right all.are_linked;
      keys_rise = rise_back kind None (flat_map entries left) (flat_map entries right) apart;
      no_more_than_pages = omega (arith, length-append left right);
    }

module _ (kind : Kind) (pages : Pages) (entries : Entries) (valid : Valid kind pages entries) (few : length pages ≤ 65536) where
  all_readable : ReadableLeaves kind pages (leaves_of valid.levels valid.tree)
  all_readable =
      let levels = valid.levels in
      let tree = valid.tree in
      let leaves = leaves_of levels tree in
      let in_each : Leaf → List EntryAt = λ (leaf : Leaf). leaf.entries in
      record {
        each_is_readable =
            leaves_readable kind pages leaves (leaves_whole kind pages entries valid few)
            (leaves_among_nodes (Linkable (length pages)) levels tree (node_pages_linkable kind pages entries valid))
            (all_parts (λ (entry : EntryAt). AllByRecursion (Linkable (length pages)) (chain_pages entry)) in_each leaves (chains_linkable kind pages entries valid))
            (all_parts (λ (entry : EntryAt). length entry.records < length pages) in_each leaves (chains_short kind pages entries valid));
        are_linked = valid.leaves_are_linked;
        keys_rise = keys_rise kind levels tree valid.keys_are_in_order;
        no_more_than_pages = let most = fewer_than_pages kind pages entries valid in omega (arith, leaves_have_pages levels tree);
      }

  pub leaves_from : (left right : List Leaf) → leaves_of valid.levels valid.tree ≡ left ++ right → ReadableLeaves kind pages right
  leaves_from left right are = back_readable kind pages left right (subst (ReadableLeaves kind pages) are all_readable)
