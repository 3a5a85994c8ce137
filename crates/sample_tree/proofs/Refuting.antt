-- If pages were a valid tree, it would be the one that they spell: ways to show that they are none. Assumes nothing.
use Rattle.std.proofs.Common.{◌≡◌, ℕ, zero, suc, ◌+◌, ◌<◌, ◌≤◌, true, eqb, ltb, leb, ◌⊎◌, List, [], ◌∷◌, ◌++◌, map, length, get_or, sum_by, sym, refl, ap, ◌∙◌, subst, inl, inr, arith}
use Rattle.std.proofs.ByRecursion.{All-append}
use Rattle.std.proofs.lemmas.List.Sums.{sum_by-cons}
use Rattle.std.proofs.lemmas.Bool.{eqb-true, eqb-false, leb-true, ltb-true, lt-ltb, cases_eq, cond-true}
use Rattle.std.specs.List.{flat_map, AllByRecursion}
use Rattle.page_store.specs.Meanings.{Live, Gone}
use Rattle.keys.specs.Kinds.{Kind}
use Rattle.keys.specs.BuiltIn.{word_kind}
use Rattle.book.specs.Books.{count}
use Rattle.book.specs.Entries.{Entries}
use Rattle.book.proofs.Counting.{one_other}
use Rattle.nodes.specs.Layout.{padded, HeaderPage, InnerPage, LeafPage, LeafEntry, RecordPage, FreePage, header_image, inner_image, leaf_image, record_image, free_image, HeaderFits, InnerFits, LeafFits, RecordFits, FreeFits}
use Rattle.nodes.specs.Readings.{header_in, inner_in, leaf_in, record_in, free_in}
use Rattle.nodes.proofs.Spelling.{no_image, made_free, header_back, inner_back, leaf_back, record_back, free_back}
use Rattle.tree.specs.Trees.{RecordAt, EntryAt, Leaf, Branch, Tree, root_of, leaves_of, entries_of, node_pages, chain_pages, record_pages}
use Rattle.tree.specs.Valid.{Pages, Holds, head_of, next_free, entry_in, SpellChain, SpellFree, SpellLeaf, Spell, Sized, Ordered, Linked, EntryFits, reached_pages, Valid}
use Rattle.tree.specs.Unique.{TreeOfSomeHeight, tree_in}
use Rattle.tree.proofs.Fitting.{leaf_page, inner_page, record_page, header_page, ChainFits, NodesFit, FreeListFits, nodes_fit_pages, header_fits, free_fit}
use Rattle.tree.proofs.Highest.{in_use_or_free}
use Rattle.tree.proofs.Uniqueness.{one_value, one_tree_of_some_height}
use Rattle.sample_tree.specs.Changed.{NotValid}
use Rattle.sample_tree.proofs.Testing.{passed, each, link_fits, header_tests, header_passes, free_passes, record_tests, record_passes, leaf_tests, leaf_passes, inner_tests, inner_passes, nodes_pass, nodes_pass_fit}

-- pages with this header
pub record Headed (pages : Pages) (h : HeaderPage) : Type 0 where
  pub few : length pages ≤ 65536
  pub fits : HeaderFits h
  pub there : Holds pages 0 (header_image h)

pub headed : {pages : Pages} (h : HeaderPage) → passed (leb (length pages) 65536 ∷ passed (header_tests h) ∷ []) ≡ true → Holds pages 0 (header_image h) → Headed pages h
headed {pages = pages} h e there =
    let p = each (leb (length pages) 65536 ∷ passed (header_tests h) ∷ []) e in
    record { few = leb-true (length pages) 65536 p.0; fits = header_passes h p.1.0; there = there }

module _ {pages : Pages} {h : HeaderPage} (top : Headed pages h) {entries : Entries} (valid : Valid word_kind pages entries) where
  header_is : header_page valid ≡ h
  header_is =
      one_value header_image HeaderFits header_in header_back pages 0 0 (header_page valid) h (header_fits word_kind pages entries valid top.few) top.fits valid.header_agrees top.there refl

  pub code_is : 1 ≡ h.kind_code
  code_is = ap (λ (v : HeaderPage). v.kind_code) header_is

  pub height_is : suc valid.levels ≡ h.height
  height_is = ap (λ (v : HeaderPage). v.height) header_is

  pub root_is : root_of valid.levels valid.tree ≡ h.root
  root_is = ap (λ (v : HeaderPage). v.root) header_is

  pub first_free_is : next_free valid.free ≡ h.first_free
  first_free_is = ap (λ (v : HeaderPage). v.first_free) header_is

  pub free_count_is : length valid.free ≡ h.free
  free_count_is = ap (λ (v : HeaderPage). v.free) header_is

  pub keys_are : length (entries_of valid.levels valid.tree) ≡ h.keys
  keys_are = ap (λ (v : HeaderPage). v.keys) header_is

  pub pages_are : length pages ≡ h.pages
  pages_are = ap (λ (v : HeaderPage). v.pages) header_is

-- pages that spell a tree of one level below its root, from the root that their header names
pub record Shown (pages : Pages) (h : HeaderPage) (tree : Tree 1) : Type 0 where
  pub top : Headed pages h
  pub height : h.height ≡ 2
  pub root : h.root ≡ tree.page
  pub nodes_fit : NodesFit 1 tree
  pub spelled : Spell pages 1 tree

pub shown : {pages : Pages} (h : HeaderPage) (tree : Tree 1) → passed (leb (length pages) 65536 ∷ passed (header_tests h) ∷ eqb h.height 2 ∷ eqb h.root tree.page ∷ nodes_pass 1 tree ∷ []) ≡ true → Holds pages 0 (header_image h) → Spell pages 1 tree → Shown pages h tree
shown {pages = pages} h tree e there spelled =
    let p = each (leb (length pages) 65536 ∷ passed (header_tests h) ∷ eqb h.height 2 ∷ eqb h.root tree.page ∷ nodes_pass 1 tree ∷ []) e in
    record {
      top = record { few = leb-true (length pages) 65536 p.0; fits = header_passes h p.1.0; there = there };
      height = eqb-true h.height 2 p.1.1.0;
      root = eqb-true h.root tree.page p.1.1.1.0;
      nodes_fit = nodes_pass_fit 1 tree p.1.1.1.1.0;
      spelled = spelled;
    }

-- what holds of the tree of every witness holds of the tree that is spelled
module _ {pages : Pages} {h : HeaderPage} {tree : Tree 1} (s : Shown pages h tree) where
  tree_is : (entries : Entries) (valid : Valid word_kind pages entries) → tree_in valid ≡ (1, tree)
  tree_is entries valid =
      let levels : valid.levels ≡ 1 = let e = height_is s.top valid in let k = s.height in omega arith in
      one_tree_of_some_height pages valid.levels 1 valid.tree tree levels (nodes_fit_pages word_kind pages entries valid s.top.few) s.nodes_fit valid.nodes_are_spelled s.spelled (root_is s.top valid ∙ s.root)

  broken : (P : TreeOfSomeHeight → Type 0) → ((entries : Entries) (valid : Valid word_kind pages entries) → P (tree_in valid)) → (P (1, tree) → ⊥) → NotValid pages
  broken P holds fails entries valid = fails (subst P (tree_is entries valid) (holds entries valid))

  pub sizes_broken : (Sized true 1 tree → ⊥) → NotValid pages
  sizes_broken = broken (λ (t : TreeOfSomeHeight). Sized true t.0 t.1) (λ entries valid. valid.sizes_fit)

  pub order_broken : (Ordered word_kind 1 tree → ⊥) → NotValid pages
  order_broken = broken (λ (t : TreeOfSomeHeight). Ordered word_kind t.0 t.1) (λ entries valid. valid.keys_are_in_order)

  pub links_broken : (Linked (leaves_of 1 tree) → ⊥) → NotValid pages
  links_broken = broken (λ (t : TreeOfSomeHeight). Linked (leaves_of t.0 t.1)) (λ entries valid. valid.leaves_are_linked)

  pub entries_broken : (AllByRecursion EntryFits (entries_of 1 tree) → ⊥) → NotValid pages
  entries_broken = broken (λ (t : TreeOfSomeHeight). AllByRecursion EntryFits (entries_of t.0 t.1)) (λ entries valid. valid.entries_fit)

  pub keys_miscounted : (length (entries_of 1 tree) ≡ h.keys → ⊥) → NotValid pages
  keys_miscounted = broken (λ (t : TreeOfSomeHeight). length (entries_of t.0 t.1) ≡ h.keys) (λ entries valid. keys_are s.top valid)

  -- the header, nodes, records and free pages are not as many as the pages
  pub reach_broken : (1 + length (node_pages 1 tree) + length (record_pages 1 tree) + h.free ≡ length pages → ⊥) → NotValid pages
  reach_broken =
      broken (λ (t : TreeOfSomeHeight). 1 + length (node_pages t.0 t.1) + length (record_pages t.0 t.1) + h.free ≡ length pages)
      (λ entries valid. let all = in_use_or_free word_kind pages entries valid in let free = free_count_is s.top valid in omega arith)

-- one page does not hold two images that differ in a byte
pub live_same : (a b : List ℕ) → Live a ≡ Live b → a ≡ b
live_same a b e = cc

pub gone_not_live : (bytes : List ℕ) → Gone ≡ Live bytes → ⊥
gone_not_live bytes e = let z : ◌≡◌ {A = ℕ} 0 1 = cc in omega arith

pub byte_clash : (k : ℕ) (a b : List ℕ) → Live a ≡ Live b → (get_or a k 0 ≡ get_or b k 0 → ⊥) → ⊥
byte_clash k a b e differ = differ (ap (λ (bytes : List ℕ). get_or bytes k 0) (live_same a b e))

-- bytes are no image if what stands in them has another
pub not_read_back : {V : Type 0} (images : V → List ℕ) (Fits : V → Type 0) (reading : List ℕ → V) → ((v : V) → Fits v → reading (images v) ≡ v) → (k : ℕ) (bytes : List ℕ) → (get_or bytes k 0 ≡ get_or (images (reading bytes)) k 0 → ⊥) → (v : V) → Fits v → Live bytes ≡ Live (images v) → ⊥
not_read_back images Fits reading back k bytes differ v fits e =
    no_image images Fits reading back bytes (images (reading bytes)) (reading bytes) refl refl (λ same. differ (ap (λ (b : List ℕ). get_or b k 0) same)) v fits (live_same bytes (images v) e)

-- nor images of two sorts
pub header_not_record : (v : HeaderPage) (w : RecordPage) → Live (header_image v) ≡ Live (record_image w) → ⊥
unfolding padded
header_not_record v w e = byte_clash 0 (header_image v) (record_image w) e (eqb-false 1 4 refl)

pub header_not_free : (v : HeaderPage) (w : FreePage) → Live (header_image v) ≡ Live (free_image w) → ⊥
unfolding padded
header_not_free v w e = byte_clash 0 (header_image v) (free_image w) e (eqb-false 1 5 refl)

pub record_not_free : (v : RecordPage) (w : FreePage) → Live (record_image v) ≡ Live (free_image w) → ⊥
unfolding padded
record_not_free v w e = byte_clash 0 (record_image v) (free_image w) e (eqb-false 4 5 refl)

pub inner_not_leaf : (v : InnerPage) (w : LeafPage) → Live (inner_image v) ≡ Live (leaf_image w) → ⊥
unfolding padded
inner_not_leaf v w e = byte_clash 0 (inner_image v) (leaf_image w) e (eqb-false 2 3 refl)

-- a part of a free list, from its first page and its length
pub record FreeFrom (pages : Pages) (first count : ℕ) (free : List ℕ) : Type 0 where
  pub starts : next_free free ≡ first
  pub long : length free ≡ count
  pub spelled : SpellFree pages free
  pub fits : FreeListFits free

pub free_from : {pages : Pages} {h : HeaderPage} → Headed pages h → {entries : Entries} (valid : Valid word_kind pages entries) → FreeFrom pages h.first_free h.free valid.free
free_from {pages = pages} {h = h} top {entries = entries} valid =
    record {
      starts = first_free_is top valid;
      long = free_count_is top valid;
      spelled = valid.free_pages_are_spelled;
      fits = free_fit word_kind pages entries valid top.few;
    }

module _ {pages : Pages} {first : ℕ} where
  pub free_ends : {free : List ℕ} → FreeFrom pages first 0 free → 0 ≡ first
  free_ends {free = []} f = f.starts
  free_ends {free = p ∷ rest} f = absurd (let e = f.long in omega arith)

  -- a page of it holds the image of a free page, and its link leads on
  pub free_there : {count : ℕ} {free : List ℕ} → FreeFrom pages first (suc count) free → ((v : FreePage) → FreeFits v → Holds pages first (free_image v) → ⊥) → ⊥
  free_there {free = []} f clash = let e = f.long in omega arith
  free_there {free = p ∷ rest} f clash = clash (made_free (next_free rest)) f.fits.0 (subst (λ (n : ℕ). Holds pages n (free_image (made_free (next_free rest)))) f.starts f.spelled.0)

  pub free_next : {count : ℕ} {free : List ℕ} (next : ℕ) → FreeFrom pages first (suc count) free → link_fits next ≡ true → Holds pages first (free_image (made_free next)) → ((rest : List ℕ) → FreeFrom pages next count rest → ⊥) → ⊥
  free_next {free = []} next f small there on = let e = f.long in omega arith
  free_next {free = p ∷ rest} next f small there on =
      let v = one_value free_image FreeFits free_in free_back pages p first (made_free (next_free rest)) (made_free next) f.fits.0 (free_passes (made_free next) small) f.spelled.0 there f.starts in
      on rest (record { starts = ap (λ (x : FreePage). x.next) v; long = let e = f.long in omega arith; spelled = f.spelled.1; fits = f.fits.1 })

-- a part of a chain, from its first page and its number of postings
abbrev chained : List RecordAt → ℕ
chained records = sum_by (λ (r : RecordAt). length r.postings) records

pub record ChainFrom (pages : Pages) (first count : ℕ) (records : List RecordAt) : Type 0 where
  pub starts : head_of records ≡ first
  pub long : chained records ≡ count
  pub spelled : SpellChain pages records
  pub fits : ChainFits records

module _ {pages : Pages} {first : ℕ} where
  pub chain_ends : {records : List RecordAt} → ChainFrom pages first 0 records → 0 ≡ first
  chain_ends {records = []} f = f.starts
  chain_ends {records = r ∷ rest} f = absurd (let e = f.long in let some = f.fits.0.has_a_posting in omega (arith, sum_by-cons (λ (x : RecordAt). length x.postings) r rest))

  pub chain_there : {count : ℕ} {records : List RecordAt} → ChainFrom pages first (suc count) records → ((v : RecordPage) → RecordFits v → Holds pages first (record_image v) → ⊥) → ⊥
  chain_there {records = []} f clash = let e = f.long in omega arith
  chain_there {records = r ∷ rest} f clash = clash (record_page r rest) f.fits.0 (subst (λ (n : ℕ). Holds pages n (record_image (record_page r rest))) f.starts f.spelled.0)

  -- the record on its first page, and what is left after it
  record_there : {count : ℕ} {records : List RecordAt} (v : RecordPage) → ChainFrom pages first (suc count) records → passed (record_tests v) ≡ true → Holds pages first (record_image v) → ((left : ℕ) (rest : List RecordAt) → length v.postings + left ≡ suc count → ChainFrom pages v.next left rest → ⊥) → ⊥
  record_there {records = []} v f small there on = let e = f.long in omega arith
  record_there {records = r ∷ rest} v f small there on =
      let same = one_value record_image RecordFits record_in record_back pages r.page first (record_page r rest) v f.fits.0 (record_passes v small) f.spelled.0 there f.starts in
      let postings : length r.postings ≡ length v.postings = ap (λ (x : RecordPage). length x.postings) same in
      on (chained rest) rest (let e = f.long in omega (arith, sum_by-cons (λ (x : RecordAt). length x.postings) r rest))
      (record { starts = ap (λ (x : RecordPage). x.next) same; long = refl; spelled = f.spelled.1; fits = f.fits.1 })

  pub chain_next : {count : ℕ} {records : List RecordAt} (v : RecordPage) (left : ℕ) → ChainFrom pages first (suc count) records → passed (record_tests v) ≡ true → Holds pages first (record_image v) → length v.postings + left ≡ suc count → ((rest : List RecordAt) → ChainFrom pages v.next left rest → ⊥) → ⊥
  chain_next v left f small there total on =
      record_there v f small there (λ others rest e g. on rest (subst (λ (n : ℕ). ChainFrom pages v.next n rest) (omega arith) g))

  pub chain_too_long : {count : ℕ} {records : List RecordAt} (v : RecordPage) → ChainFrom pages first (suc count) records → passed (record_tests v) ≡ true → Holds pages first (record_image v) → ltb (suc count) (length v.postings) ≡ true → ⊥
  chain_too_long {count = count} v f small there more =
      record_there v f small there (λ others rest e g. omega (arith, ltb-true (suc count) (length v.postings) more))

-- the root of a witness and its first child, by the height of the header
root_as_leaf : (pages : Pages) (levels : ℕ) (tree : Tree levels) → levels ≡ 0 → Spell pages levels tree → ((v : LeafPage) → Holds pages (root_of levels tree) (leaf_image v) → ⊥) → ⊥
root_as_leaf pages zero tree e spelled clash = clash (leaf_page tree) spelled.0
root_as_leaf pages (suc levels) tree e spelled clash = omega arith

root_as_inner : (pages : Pages) (levels m : ℕ) (tree : Tree levels) → levels ≡ suc m → NodesFit levels tree → Spell pages levels tree → ((v : InnerPage) → InnerFits v → Holds pages (root_of levels tree) (inner_image v) → ⊥) → ⊥
root_as_inner pages zero m tree e fit spelled clash = omega arith
root_as_inner pages (suc levels) m tree e fit spelled clash = clash (inner_page levels tree) fit.0 spelled.0

first_child : (pages : Pages) (levels : ℕ) (tree : Tree levels) (m : ℕ) (v : InnerPage) (root : ℕ) → levels ≡ suc m → root_of levels tree ≡ root → NodesFit levels tree → Spell pages levels tree → InnerFits v → Holds pages root (inner_image v) → ((child : Tree m) → root_of m child ≡ v.first → NodesFit m child → Spell pages m child → ⊥) → ⊥
first_child pages zero tree m v root e at fit spelled small there on = omega arith
first_child pages (suc levels) tree m v root e at fit spelled small there on =
    let same = one_value inner_image InnerFits inner_in inner_back pages tree.page root (inner_page levels tree) v fit.0 small spelled.0 there at in
    let less : levels ≡ m = omega arith in
    subst (λ (l : ℕ). (child : Tree l) → root_of l child ≡ v.first → NodesFit l child → Spell pages l child → ⊥) (sym less) on tree.first (ap (λ (x : InnerPage). x.first) same) fit.1 spelled.1

module _ {pages : Pages} {h : HeaderPage} (top : Headed pages h) {entries : Entries} (valid : Valid word_kind pages entries) where
  pub root_is_a_leaf : h.height ≡ 1 → ((v : LeafPage) → Holds pages h.root (leaf_image v) → ⊥) → ⊥
  root_is_a_leaf high clash =
      root_as_leaf pages valid.levels valid.tree (let e = height_is top valid in omega arith) valid.nodes_are_spelled
      (λ v there. clash v (subst (λ (n : ℕ). Holds pages n (leaf_image v)) (root_is top valid) there))

  pub root_is_inner : (m : ℕ) → h.height ≡ suc (suc m) → ((v : InnerPage) → InnerFits v → Holds pages h.root (inner_image v) → ⊥) → ⊥
  root_is_inner m high clash =
      root_as_inner pages valid.levels m valid.tree (let e = height_is top valid in omega arith) (nodes_fit_pages word_kind pages entries valid top.few) valid.nodes_are_spelled
      (λ v fits there. clash v fits (subst (λ (n : ℕ). Holds pages n (inner_image v)) (root_is top valid) there))

  pub child_is : (m : ℕ) (v : InnerPage) → h.height ≡ suc (suc m) → passed (inner_tests v) ≡ true → Holds pages h.root (inner_image v) → ((child : Tree m) → root_of m child ≡ v.first → NodesFit m child → Spell pages m child → ⊥) → ⊥
  child_is m v high small there =
      first_child pages valid.levels valid.tree m v h.root (let e = height_is top valid in omega arith) (root_is top valid) (nodes_fit_pages word_kind pages entries valid top.few) valid.nodes_are_spelled (inner_passes v small) there

-- the chain of a leaf's first entry
first_chain : (pages : Pages) (entries : List EntryAt) (e : LeafEntry) (es : List LeafEntry) → map entry_in entries ≡ e ∷ es → AllByRecursion (λ (entry : EntryAt). ChainFits entry.records) entries → AllByRecursion (λ (entry : EntryAt). SpellChain pages entry.records) entries → ((records : List RecordAt) → ChainFrom pages e.head e.chained records → ⊥) → ⊥
first_chain pages [] e es same fit spelled on = omega (arith, ap length same)
first_chain pages (entry ∷ entries) e es same fit spelled on =
    let here : entry_in entry ≡ e = cc in
    on entry.records (record { starts = ap (λ (x : LeafEntry). x.head) here; long = ap (λ (x : LeafEntry). x.chained) here; spelled = spelled.0; fits = fit.0 })

pub chain_in : {pages : Pages} (child : Leaf) (v : LeafPage) (e : LeafEntry) (es : List LeafEntry) (page : ℕ) → child.page ≡ page → NodesFit 0 child → Spell pages 0 child → passed (leaf_tests v) ≡ true → Holds pages page (leaf_image v) → v.entries ≡ e ∷ es → ((records : List RecordAt) → ChainFrom pages e.head e.chained records → ⊥) → ⊥
chain_in {pages = pages} child v e es page at fit spelled small there listed on =
    let same = one_value leaf_image LeafFits leaf_in leaf_back pages child.page page (leaf_page child) v fit.0 (leaf_passes v small) spelled.0 there at in
    first_chain pages child.entries e es (ap (λ (x : LeafPage). x.entries) same ∙ listed) fit.1 spelled.1 on

-- every page of a valid tree holds something
abbrev Kept : Pages → ℕ → Type 0
Kept pages page = get_or pages page Gone ≡ Gone → ⊥

kept : (pages : Pages) (page : ℕ) (bytes : List ℕ) → Holds pages page bytes → Kept pages page
kept pages page bytes there e = gone_not_live bytes (sym e ∙ there)

all_joined : {X Y : Type 0} (P : Y → Type 0) (Q : X → Type 0) (f : X → List Y) → ((x : X) → Q x → AllByRecursion P (f x)) → (xs : List X) → AllByRecursion Q xs → AllByRecursion P (flat_map f xs)
all_joined P Q f each' [] all = tt
all_joined P Q f each' (x ∷ xs) all = All-append P (f x) (flat_map f xs) (each' x all.0) (all_joined P Q f each' xs all.1)

module _ (pages : Pages) where
  nodes_kept : (levels : ℕ) (tree : Tree levels) → Spell pages levels tree → AllByRecursion (Kept pages) (node_pages levels tree)
  nodes_kept zero leaf spelled = (kept pages leaf.page (leaf_image (leaf_page leaf)) spelled.0, tt)
  nodes_kept (suc levels) node spelled = (
    kept pages node.page (inner_image (inner_page levels node)) spelled.0,
    All-append (Kept pages) (node_pages levels node.first) (flat_map (λ (branch : Branch (Tree levels)). node_pages levels branch.child) node.rest)
        (nodes_kept levels node.first spelled.1)
        (all_joined (Kept pages) (λ (branch : Branch (Tree levels)). Spell pages levels branch.child) (λ (branch : Branch (Tree levels)). node_pages levels branch.child) (λ branch h. nodes_kept levels branch.child h) node.rest spelled.2),
  )

  leaves_spelled : (levels : ℕ) (tree : Tree levels) → Spell pages levels tree → AllByRecursion (SpellLeaf pages) (leaves_of levels tree)
  leaves_spelled zero leaf spelled = (spelled, tt)
  leaves_spelled (suc levels) node spelled =
      All-append (SpellLeaf pages) (leaves_of levels node.first) (flat_map (λ (branch : Branch (Tree levels)). leaves_of levels branch.child) node.rest)
      (leaves_spelled levels node.first spelled.1)
      (all_joined (SpellLeaf pages) (λ (branch : Branch (Tree levels)). Spell pages levels branch.child) (λ (branch : Branch (Tree levels)). leaves_of levels branch.child) (λ branch h. leaves_spelled levels branch.child h) node.rest spelled.2)

  chain_kept : (records : List RecordAt) → SpellChain pages records → AllByRecursion (Kept pages) (map (λ (r : RecordAt). r.page) records)
  chain_kept [] spelled = tt
  chain_kept (r ∷ rest) spelled = (kept pages r.page (record_image (record_page r rest)) spelled.0, chain_kept rest spelled.1)

  records_kept : (levels : ℕ) (tree : Tree levels) → Spell pages levels tree → AllByRecursion (Kept pages) (record_pages levels tree)
  records_kept levels tree spelled =
      let Chained : EntryAt → Type 0 = λ (entry : EntryAt). SpellChain pages entry.records in
      all_joined (Kept pages) Chained chain_pages (λ entry h. chain_kept entry.records h) (entries_of levels tree)
      (all_joined Chained (SpellLeaf pages) (λ (leaf : Leaf). leaf.entries) (λ leaf h. h.1) (leaves_of levels tree) (leaves_spelled levels tree spelled))

  free_kept : (free : List ℕ) → SpellFree pages free → AllByRecursion (Kept pages) free
  free_kept [] spelled = tt
  free_kept (page ∷ rest) spelled = (kept pages page (free_image (made_free (next_free rest))) spelled.0, free_kept rest spelled.1)

all_at : (P : ℕ → Type 0) (list : List ℕ) (n : ℕ) → AllByRecursion P list → 1 ≤ count n list → P n
all_at P [] n all some = absurd (omega arith)
all_at P (m ∷ ms) n all some = go (cases_eq n m) (λ more. all_at P ms n all.1 more)
  where
    go : (n ≡ m) ⊎ (n ≡ m → ⊥) → (1 ≤ count n ms → P n) → P n
    go (inl same) later = subst P (sym same) all.0
    go (inr other) later = later (omega (arith, one_other n m other))

pub no_page_lost : (kind : Kind) (pages : Pages) (entries : Entries) → Valid kind pages entries → (page : ℕ) → page < length pages → get_or pages page Gone ≡ Gone → ⊥
no_page_lost kind pages entries valid page within =
    let levels = valid.levels in
    let tree = valid.tree in
    let nodes = nodes_kept pages levels tree valid.nodes_are_spelled in
    let records = records_kept pages levels tree valid.nodes_are_spelled in
    let free = free_kept pages valid.free valid.free_pages_are_spelled in
    let used = All-append (Kept pages) (node_pages levels tree) (record_pages levels tree) nodes records in
    all_at (Kept pages) (reached_pages levels tree valid.free) page
    (kept pages 0 (header_image (header_page valid)) valid.header_agrees, All-append (Kept pages) (node_pages levels tree ++ record_pages levels tree) valid.free used free)
    (omega (arith, valid.each_page_is_reached_once page ∙ cond-true (ltb page (length pages)) 1 0 (lt-ltb page (length pages) within)))
