-- Every number in the pages of a valid tree on at most 65,536 pages fits its field. Assumes nothing.
use Rattle.std.proofs.Common.{◌≡◌, ℕ, zero, suc, ◌+◌, ◌^◌, ◌<◌, ◌≤◌, Bool, true, false, cond, ltb, ◌⊎◌, List, [], ◌∷◌, ◌++◌, map, length, Some, None, Option, refl, ◌∙◌, inl, inr, arith}
use Rattle.std.proofs.ByRecursion.{All-weaker, All-append, sum_by_le}
use Rattle.std.proofs.lemmas.List.{length-map, length-append}
use Rattle.std.proofs.lemmas.Bool.{cases_lt, le-ltb, cond-false}
use Rattle.std.specs.List.{flat_map, AllByRecursion}
use Rattle.keys.specs.Kinds.{Kind, Field}
use Rattle.book.specs.Books.{count, PostingNumber}
use Rattle.book.specs.Entries.{Entries}
use Rattle.book.proofs.Counting.{one_same}
use Rattle.nodes.specs.Layout.{HeaderPage, InnerPage, LeafPage, RecordPage, HeaderFits, InnerFits, RowFits, LeafFits, RecordFits, FreeFits}
use Rattle.nodes.specs.Layout.{EntryFits as EntryFitsIn}
use Rattle.nodes.proofs.Spelling.{made_row}
use Rattle.tree.specs.Trees.{RecordAt, EntryAt, Leaf, Branch, Inner, Tree, root_of, leaves_of, entries_of, node_pages, chain_pages, record_pages}
use Rattle.tree.specs.Valid.{Pages, head_of, next_free, entry_in, Sized, Rise, Ordered, next_leaf, Linked, EntryFits, reached_pages, Valid}
use Rattle.tree.proofs.Everywhere.{all_front, all_back, all_parts, all_unmapped, all_both, all_first, all_rest, all_counted, each_shorter, joined_most}
use Rattle.tree.proofs.Highest.{at_most_six, leaves_have_pages}
use Rattle.tree.proofs.Tallies.{at_most_one, fits_below}

-- the page values of a node, as the valid tree spells them
abbrev pub leaf_page : Leaf → LeafPage
leaf_page leaf = record { next = leaf.next; entries = map entry_in leaf.entries }

abbrev pub inner_page : (levels : ℕ) → Inner (Tree levels) → InnerPage
inner_page levels node = record { first = root_of levels node.first; rows = map (λ branch. record { key = branch.key; child = root_of levels branch.child }) node.rest }

abbrev pub record_page : RecordAt → List RecordAt → RecordPage
record_page first rest = record { next = head_of rest; postings = first.postings }

abbrev pub header_page : {kind : Kind} {pages : Pages} {entries : Entries} → Valid kind pages entries → HeaderPage
header_page {kind = kind} {pages = pages} valid =
    record { kind_code = kind.code; height = suc valid.levels; root = root_of valid.levels valid.tree; first_free = next_free valid.free; free = length valid.free; keys = length (entries_of valid.levels valid.tree); pages = length pages }

-- every record of a chain fits its page
abbrev pub ChainFits : List RecordAt → Type 0
ChainFits [] = Unit {0}
ChainFits (first ∷ rest) = RecordFits (record_page first rest) × ChainFits rest

-- every node of a tree fits its page, and so does every record of its chains
abbrev pub NodesFit : (levels : ℕ) → Tree levels → Type 0
NodesFit zero leaf = LeafFits (leaf_page leaf) × AllByRecursion (λ (entry : EntryAt). ChainFits entry.records) leaf.entries
NodesFit (suc levels) node = InnerFits (inner_page levels node) × NodesFit levels node.first × AllByRecursion (λ branch. NodesFit levels branch.child) node.rest

-- every page of a free list fits its page
abbrev pub FreeListFits : List ℕ → Type 0
FreeListFits [] = Unit {0}
FreeListFits (page ∷ rest) = FreeFits (record { next = next_free rest }) × FreeListFits rest

-- a page that can be linked to: not the header, and there
abbrev pub Linkable : (bound : ℕ) → ℕ → Type 0
Linkable bound page = (1 ≤ page) × (page < bound)

-- a page that is reached is there
below_bound : (bound page n : ℕ) → n ≡ cond (ltb page bound) 1 0 → 1 ≤ n → page < bound
below_bound bound page n e h = go (cases_lt page bound)
  where
    go : (page < bound) ⊎ (bound ≤ page) → page < bound
    go (inl in') = in'
    go (inr out) = absurd (omega (arith, e ∙ cond-false (ltb page bound) 1 0 (le-ltb page bound out)))

module _ (kind : Kind) (pages : Pages) (entries : Entries) (valid : Valid kind pages entries) where
  -- and the header is not reached again
  reached_once : AllByRecursion (Linkable (length pages)) (node_pages valid.levels valid.tree ++ record_pages valid.levels valid.tree ++ valid.free)
  reached_once = all_counted (Linkable (length pages)) list once
    where
      list : List ℕ
      list = node_pages valid.levels valid.tree ++ record_pages valid.levels valid.tree ++ valid.free

      once : (page : ℕ) → 1 ≤ count page list → Linkable (length pages) page
      once zero h = absurd (let all = valid.each_page_is_reached_once 0 in let one = at_most_one (ltb 0 (length pages)) in omega (arith, one_same 0 0 refl))
      once (suc page) h = (omega arith, below_bound (length pages) (suc page) _ (valid.each_page_is_reached_once (suc page)) (omega arith))

  in_use : AllByRecursion (Linkable (length pages)) (node_pages valid.levels valid.tree ++ record_pages valid.levels valid.tree)
  in_use = all_front (Linkable (length pages)) (node_pages valid.levels valid.tree ++ record_pages valid.levels valid.tree) valid.free reached_once

  pub node_pages_linkable : AllByRecursion (Linkable (length pages)) (node_pages valid.levels valid.tree)
  node_pages_linkable = all_front (Linkable (length pages)) (node_pages valid.levels valid.tree) (record_pages valid.levels valid.tree) in_use

  pub record_pages_linkable : AllByRecursion (Linkable (length pages)) (record_pages valid.levels valid.tree)
  record_pages_linkable = all_back (Linkable (length pages)) (node_pages valid.levels valid.tree) (record_pages valid.levels valid.tree) in_use

  pub free_pages_linkable : AllByRecursion (Linkable (length pages)) valid.free
  free_pages_linkable = all_back (Linkable (length pages)) (node_pages valid.levels valid.tree ++ record_pages valid.levels valid.tree) valid.free reached_once

  -- nodes, records and free pages are no more than pages
  pub fewer_than_pages : 1 + (length (node_pages valid.levels valid.tree) + (length (record_pages valid.levels valid.tree) + length valid.free)) ≤ length pages
  fewer_than_pages =
      let all = fits_below (length pages) (reached_pages valid.levels valid.tree valid.free) (λ p. let e = valid.each_page_is_reached_once p in omega arith) in
      omega (arith, simp length-append at all)

-- what holds of the pages of all nodes holds of the root's and of the leaves'
pub root_among_nodes : (P : ℕ → Type 0) (levels : ℕ) (tree : Tree levels) → AllByRecursion P (node_pages levels tree) → P (root_of levels tree)
root_among_nodes P zero tree all = all.0
root_among_nodes P (suc levels) tree all = all.0

each_leaf : {X : Type 0} (P : Leaf → Type 0) (Q : X → Type 0) (leaves : X → List Leaf) (branches : List (Branch X)) → ((x : X) → Q x → AllByRecursion P (leaves x)) → AllByRecursion (λ (branch : Branch X). Q branch.child) branches → AllByRecursion P (flat_map (λ (branch : Branch X). leaves branch.child) branches)
each_leaf P Q leaves [] each all = tt
each_leaf {X = X} P Q leaves (branch ∷ branches) each all =
    All-append P (leaves branch.child) (flat_map (λ (b : Branch X). leaves b.child) branches) (each branch.child all.0) (each_leaf P Q leaves branches each all.1)

pub leaves_among_nodes : (P : ℕ → Type 0) (levels : ℕ) (tree : Tree levels) → AllByRecursion P (node_pages levels tree) → AllByRecursion (λ (leaf : Leaf). P leaf.page) (leaves_of levels tree)
leaves_among_nodes P zero tree all = (all.0, tt)
leaves_among_nodes P (suc levels) tree all =
    All-append (λ (leaf : Leaf). P leaf.page) (leaves_of levels tree.first) (flat_map (λ (branch : Branch (Tree levels)). leaves_of levels branch.child) tree.rest)
    (leaves_among_nodes P levels tree.first (all_first P (node_pages levels) tree all.1))
    (each_leaf (λ (leaf : Leaf). P leaf.page) (λ (child : Tree levels). AllByRecursion P (node_pages levels child)) (leaves_of levels) tree.rest (leaves_among_nodes P levels) (all_rest P (node_pages levels) tree all.1))

-- a leaf has at most 8 entries
pub leaves_sized : (root : Bool) (levels : ℕ) (tree : Tree levels) → Sized root levels tree → AllByRecursion (λ (leaf : Leaf). length leaf.entries ≤ 8) (leaves_of levels tree)
leaves_sized root zero tree sized = (sized.1, tt)
leaves_sized root (suc levels) tree sized =
    All-append (λ (leaf : Leaf). length leaf.entries ≤ 8) (leaves_of levels tree.first) (flat_map (λ (branch : Branch (Tree levels)). leaves_of levels branch.child) tree.rest)
    (leaves_sized false levels tree.first sized.2)
    (each_leaf (λ (leaf : Leaf). length leaf.entries ≤ 8) (Sized false levels) (leaves_of levels) tree.rest (leaves_sized false levels) sized.3)

-- a link to the next leaf is a leaf's page or 0
next_fits : (bound : ℕ) (leaves : List Leaf) → 0 < bound → AllByRecursion (λ (leaf : Leaf). leaf.page < bound) leaves → next_leaf leaves < bound
next_fits bound [] some all = some
next_fits bound (leaf ∷ leaves) some all = all.0

links_fit : (bound : ℕ) (leaves : List Leaf) → 0 < bound → AllByRecursion (λ (leaf : Leaf). leaf.page < bound) leaves → Linked leaves → AllByRecursion (λ (leaf : Leaf). leaf.next < bound) leaves
links_fit bound [] some all linked = tt
links_fit bound (leaf ∷ leaves) some all linked =
    (let e = linked.0 in let h = next_fits bound leaves some all.1 in omega arith, links_fit bound leaves some all.1 linked.1)

-- rising fields are lawful
pub rise_lawful : (kind : Kind) (before : Option Field) (keys : List Field) → Rise kind before keys → AllByRecursion (λ key. kind.lawful key ≡ true) keys
rise_lawful kind before [] rise = tt
rise_lawful kind before (key ∷ keys) rise = (rise.0, rise_lawful kind (Some key) keys rise.2)

-- a chain that is no longer than there are pages
abbrev Small : ℕ → Type 0
Small page = page < 65536

head_small : (records : List RecordAt) → AllByRecursion Small (map (λ (r : RecordAt). r.page) records) → head_of records < 65536
head_small [] all = omega arith
head_small (first ∷ rest) all = all.0

posting_fits : (n : ℕ) → PostingNumber n → n < 2 ^ 64
posting_fits n h = omega arith

chain_fits : (records : List RecordAt) → AllByRecursion Small (map (λ (r : RecordAt). r.page) records) → AllByRecursion (λ (r : RecordAt). (1 ≤ length r.postings) × (length r.postings ≤ 60)) records → AllByRecursion PostingNumber (flat_map (λ (r : RecordAt). r.postings) records) → ChainFits records
chain_fits [] small sizes numbers = tt
chain_fits (first ∷ rest) small sizes numbers = (
  record {
    next_fits = let h = head_small rest small.1 in omega arith;
    has_a_posting = sizes.0.0;
    at_most_60_postings = sizes.0.1;
    each_posting_fits = All-weaker PostingNumber (λ n. n < 2 ^ 64) posting_fits first.postings (all_front PostingNumber first.postings (flat_map (λ (r : RecordAt). r.postings) rest) numbers);
  },
  chain_fits rest small.1 sizes.1 (all_back PostingNumber first.postings (flat_map (λ (r : RecordAt). r.postings) rest) numbers),
)

-- an entry: within its sizes, with records that are on pages, no more of them than pages
record EntryPlaced (entry : EntryAt) : Type 0 where
  pub fits : EntryFits entry
  pub records_are_on_pages : AllByRecursion Small (chain_pages entry)
  pub few_records : length (chain_pages entry) ≤ 65536

entry_fits : (kind : Kind) (entry : EntryAt) → kind.lawful entry.key ≡ true → EntryPlaced entry → EntryFitsIn (entry_in entry)
entry_fits kind entry lawful placed =
    record {
      key_is_24_bytes = kind.fields_have_24_bytes entry.key lawful;
      key_holds_bytes = kind.fields_hold_bytes entry.key lawful;
      at_most_3_inline = placed.fits.at_most_3_inline;
      each_inline_fits = All-weaker PostingNumber (λ n. n < 2 ^ 64) posting_fits entry.inline (all_front PostingNumber entry.inline (flat_map (λ (r : RecordAt). r.postings) entry.records) placed.fits.are_posting_numbers);
      head_fits = let h = head_small entry.records placed.records_are_on_pages in omega arith;
      chained_fits =
          let most = sum_by_le (λ (r : RecordAt). length r.postings) 60 entry.records (All-weaker (λ (r : RecordAt). (1 ≤ length r.postings) × (length r.postings ≤ 60)) (λ (r : RecordAt). length r.postings ≤ 60) (λ r h. h.1) entry.records placed.fits.records_hold_1_to_60) in
          let few = placed.few_records in
          let same = length-map entry.records (λ (r : RecordAt). r.page) in
          omega arith;
    }

-- a leaf: linked to a page, its entries placed
abbrev LeafPlaced : Leaf → Type 0
LeafPlaced leaf = (leaf.next < 65536) × AllByRecursion EntryPlaced leaf.entries

entries_fit : (kind : Kind) (entries : List EntryAt) → AllByRecursion (λ (entry : EntryAt). kind.lawful entry.key ≡ true) entries → AllByRecursion EntryPlaced entries → AllByRecursion EntryFitsIn (map entry_in entries)
entries_fit kind [] lawful placed = tt
entries_fit kind (entry ∷ entries) lawful placed = (entry_fits kind entry lawful.0 placed.0, entries_fit kind entries lawful.1 placed.1)

chains_fit : (entries : List EntryAt) → AllByRecursion EntryPlaced entries → AllByRecursion (λ (entry : EntryAt). ChainFits entry.records) entries
chains_fit [] placed = tt
chains_fit (entry ∷ entries) placed =
    let here = placed.0 in (
      chain_fits entry.records here.records_are_on_pages here.fits.records_hold_1_to_60 (all_back PostingNumber entry.inline (flat_map (λ (r : RecordAt). r.postings) entry.records) here.fits.are_posting_numbers),
      chains_fit entries placed.1,
    )

leaf_fits : (kind : Kind) (root : Bool) (leaf : Leaf) → Sized root zero leaf → Ordered kind zero leaf → LeafPlaced leaf → NodesFit zero leaf
leaf_fits kind root leaf sized ordered placed =
    let lawful = all_unmapped (λ key. kind.lawful key ≡ true) (λ (entry : EntryAt). entry.key) leaf.entries (rise_lawful kind None (map (λ (entry : EntryAt). entry.key) leaf.entries) ordered) in (
      record {
        next_fits = let h = placed.0 in omega arith;
        at_most_8_entries = let h = sized.1 in let same = length-map leaf.entries entry_in in omega arith;
        each_entry_fits = entries_fit kind leaf.entries lawful placed.1;
      },
      chains_fit leaf.entries placed.1,
    )

rows_fit : (kind : Kind) (levels : ℕ) (branches : List (Branch (Tree levels))) → AllByRecursion (λ key. kind.lawful key ≡ true) (map (λ (branch : Branch (Tree levels)). branch.key) branches) → AllByRecursion (λ (branch : Branch (Tree levels)). AllByRecursion Small (node_pages levels branch.child)) branches → AllByRecursion RowFits (map (λ (branch : Branch (Tree levels)). record { key = branch.key; child = root_of levels branch.child }) branches)
rows_fit kind levels [] lawful small = tt
rows_fit kind levels (branch ∷ branches) lawful small = (
  record {
    key_is_24_bytes = kind.fields_have_24_bytes branch.key lawful.0;
    key_holds_bytes = kind.fields_hold_bytes branch.key lawful.0;
    child_fits = let h = root_among_nodes Small levels branch.child small.0 in omega arith;
  },
  rows_fit kind levels branches lawful.1 small.1,
)

inner_fits : (kind : Kind) (root : Bool) (levels : ℕ) (node : Tree (suc levels)) → AllByRecursion Small (node_pages (suc levels) node) → Sized root (suc levels) node → Ordered kind (suc levels) node → InnerFits (inner_page levels node)
inner_fits kind root levels node small sized ordered =
    record {
      first_fits = let h = root_among_nodes Small levels node.first (all_first Small (node_pages levels) node small.1) in omega arith;
      at_most_15_rows = let h = sized.1 in let same = length-map node.rest (λ (branch : Branch (Tree levels)). made_row branch.key (root_of levels branch.child)) in omega arith;
      each_row_fits = rows_fit kind levels node.rest (rise_lawful kind None (map (λ (branch : Branch (Tree levels)). branch.key) node.rest) ordered.0) (all_rest Small (node_pages levels) node small.1);
    }

-- each node fits, by induction on the levels
module _ (kind : Kind) (levels : ℕ) (fit : (tree : Tree levels) → AllByRecursion Small (node_pages levels tree) → Sized false levels tree → Ordered kind levels tree → AllByRecursion LeafPlaced (leaves_of levels tree) → NodesFit levels tree) where
  children_fit : (branches : List (Branch (Tree levels))) → AllByRecursion (λ (branch : Branch (Tree levels)). AllByRecursion Small (node_pages levels branch.child)) branches → AllByRecursion (λ (branch : Branch (Tree levels)). Sized false levels branch.child) branches → AllByRecursion (λ (branch : Branch (Tree levels)). Ordered kind levels branch.child) branches → AllByRecursion (λ (branch : Branch (Tree levels)). AllByRecursion LeafPlaced (leaves_of levels branch.child)) branches → AllByRecursion (λ (branch : Branch (Tree levels)). NodesFit levels branch.child) branches
  children_fit [] small sized ordered placed = tt
  children_fit (branch ∷ branches) small sized ordered placed =
      (fit branch.child small.0 sized.0 ordered.0 placed.0, children_fit branches small.1 sized.1 ordered.1 placed.1)

nodes_fit_from : (kind : Kind) (root : Bool) (levels : ℕ) (tree : Tree levels) → AllByRecursion Small (node_pages levels tree) → Sized root levels tree → Ordered kind levels tree → AllByRecursion LeafPlaced (leaves_of levels tree) → NodesFit levels tree
nodes_fit_from kind root zero leaf small sized ordered placed = leaf_fits kind root leaf sized ordered placed.0
nodes_fit_from kind root (suc levels) node small sized ordered placed = (
  inner_fits kind root levels node small sized ordered,
  nodes_fit_from kind false levels node.first (all_first Small (node_pages levels) node small.1) sized.2 ordered.2 (all_first LeafPlaced (leaves_of levels) node placed),
  children_fit kind levels (nodes_fit_from kind false levels) node.rest (all_rest Small (node_pages levels) node small.1) sized.3 ordered.3 (all_rest LeafPlaced (leaves_of levels) node placed),
)

linkable_small : (bound : ℕ) → bound ≤ 65536 → (page : ℕ) → Linkable bound page → page < 65536
linkable_small bound few page h = omega arith

placed_all : (entries : List EntryAt) (most : ℕ) → most ≤ 65536 → AllByRecursion EntryFits entries → AllByRecursion (λ (entry : EntryAt). AllByRecursion Small (chain_pages entry)) entries → AllByRecursion (λ (entry : EntryAt). length (chain_pages entry) ≤ most) entries → AllByRecursion EntryPlaced entries
placed_all [] most few fit small short = tt
placed_all (entry ∷ entries) most few fit small short =
    (record { fits = fit.0; records_are_on_pages = small.0; few_records = let h = short.0 in omega arith }, placed_all entries most few fit.1 small.1 short.1)

next_free_small : (bound : ℕ) (free : List ℕ) → bound ≤ 65536 → AllByRecursion (Linkable bound) free → next_free free < 65536
next_free_small bound [] few all = omega arith
next_free_small bound (page ∷ free) few all = linkable_small bound few page all.0

pub free_list_fits : (bound : ℕ) (free : List ℕ) → bound ≤ 65536 → AllByRecursion (Linkable bound) free → FreeListFits free
free_list_fits bound [] few all = tt
free_list_fits bound (page ∷ free) few all = (record { next_fits = let h = next_free_small bound free few all.1 in omega arith }, free_list_fits bound free few all.1)

both_placed : (leaves : List Leaf) → AllByRecursion (λ (leaf : Leaf). leaf.next < 65536) leaves → AllByRecursion (λ (leaf : Leaf). AllByRecursion EntryPlaced leaf.entries) leaves → AllByRecursion LeafPlaced leaves
both_placed leaves nexts entries = all_both (λ (leaf : Leaf). leaf.next < 65536) (λ (leaf : Leaf). AllByRecursion EntryPlaced leaf.entries) leaves nexts entries

-- a valid tree on at most 65,536 pages: its nodes, its header and its free pages fit
pub nodes_fit_pages : (kind : Kind) (pages : Pages) (entries : Entries) (valid : Valid kind pages entries) → length pages ≤ 65536 → NodesFit valid.levels valid.tree
nodes_fit_pages kind pages entries valid few =
    let levels = valid.levels in
    let tree = valid.tree in
    let small = All-weaker (Linkable (length pages)) Small (linkable_small (length pages) few) (node_pages levels tree) (node_pages_linkable kind pages entries valid) in
    let records = All-weaker (Linkable (length pages)) Small (linkable_small (length pages) few) (record_pages levels tree) (record_pages_linkable kind pages entries valid) in
    let nexts = links_fit 65536 (leaves_of levels tree) (omega arith) (leaves_among_nodes Small levels tree small) valid.leaves_are_linked in
    let fewer = fewer_than_pages kind pages entries valid in
    let placed = placed_all (entries_of levels tree) (length (record_pages levels tree)) (omega arith) valid.entries_fit (all_parts Small chain_pages (entries_of levels tree) records) (each_shorter chain_pages (entries_of levels tree)) in
    nodes_fit_from kind true levels tree small valid.sizes_fit valid.keys_are_in_order (both_placed (leaves_of levels tree) nexts (all_parts EntryPlaced (λ (leaf : Leaf). leaf.entries) (leaves_of levels tree) placed))

pub header_fits : (kind : Kind) (pages : Pages) (entries : Entries) (valid : Valid kind pages entries) → length pages ≤ 65536 → HeaderFits (header_page valid)
header_fits kind pages entries valid few =
    let levels = valid.levels in
    let tree = valid.tree in
    let fewer = fewer_than_pages kind pages entries valid in
    let most = joined_most (λ (leaf : Leaf). leaf.entries) 8 (leaves_of levels tree) (leaves_sized true levels tree valid.sizes_fit) in
    let leaves = leaves_have_pages levels tree in
    let root = root_among_nodes (Linkable (length pages)) levels tree (node_pages_linkable kind pages entries valid) in
    let high = at_most_six kind pages entries valid few in
    let code = kind.code_is_a_byte in
    let first = next_free_small (length pages) valid.free few (free_pages_linkable kind pages entries valid) in
    record {
      kind_code_is_a_byte = code;
      height_fits = omega arith;
      root_fits = omega arith;
      first_free_fits = omega arith;
      free_fits = omega arith;
      keys_fit = omega arith;
      pages_fit = omega arith;
    }

pub free_fit : (kind : Kind) (pages : Pages) (entries : Entries) (valid : Valid kind pages entries) → length pages ≤ 65536 → FreeListFits valid.free
free_fit kind pages entries valid few = free_list_fits (length pages) valid.free few (free_pages_linkable kind pages entries valid)
