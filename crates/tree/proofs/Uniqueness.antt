-- What pages spell is determined by their bytes: images tell values that fit apart. Assumes nothing.
use Rattle.std.proofs.Common.{◌≡◌, ℕ, zero, suc, ◌≤◌, List, [], ◌∷◌, map, length, get_or, sum_by, sym, refl, ap, ◌∙◌, subst, arith}
use Rattle.std.proofs.lemmas.List.Sums.{sum_by-cons}
use Rattle.std.specs.List.{AllByRecursion}
use Rattle.page_store.specs.Meanings.{Live, Gone}
use Rattle.nodes.specs.Layout.{HeaderPage, InnerPage, InnerRow, LeafPage, LeafEntry, RecordPage, FreePage, header_image, inner_image, leaf_image, record_image, free_image, HeaderFits, InnerFits, LeafFits, RecordFits, FreeFits}
use Rattle.nodes.specs.Readings.{header_in, inner_in, leaf_in, record_in, free_in}
use Rattle.nodes.proofs.Spelling.{only_one, made_row, header_back, inner_back, leaf_back, record_back, free_back}
use Rattle.keys.specs.Kinds.{Kind}
use Rattle.book.specs.Entries.{Entries}
use Rattle.tree.specs.Trees.{RecordAt, EntryAt, Leaf, Branch, Inner, Tree, root_of, held_by}
use Rattle.tree.specs.Valid.{Pages, Holds, head_of, next_free, entry_in, SpellChain, SpellFree, Spell, Valid}
use Rattle.tree.specs.Unique.{TreeOfSomeHeight, PagesHoldOneTree, EntriesAreUnique}
use Rattle.tree.proofs.Everywhere.{all_both}
use Rattle.tree.proofs.Fitting.{leaf_page, inner_page, record_page, header_page, ChainFits, NodesFit, FreeListFits, nodes_fit_pages, header_fits, free_fit}

live_same : (a b : List ℕ) → Live a ≡ Live b → a ≡ b
live_same a b e = cc

-- one page holds one value, of whatever sort
module _ {V : Type 0} (image : V → List ℕ) (Fits : V → Type 0) (reading : List ℕ → V) (back : (v : V) → Fits v → reading (image v) ≡ v) where
  pub one_value : (pages : Pages) (page same : ℕ) (v w : V) → Fits v → Fits w → Holds pages page (image v) → Holds pages same (image w) → page ≡ same → v ≡ w
  one_value pages page same v w f g h k e =
      only_one image Fits reading back v w f g (live_same (image v) (image w) (sym h ∙ ap (λ (n : ℕ). get_or pages n Gone) e ∙ k))

-- lists whose images under a map agree are the same, if the map tells elements of a sort apart
first_same : {X : Type 0} (x y : X) (xs ys : List X) → (x ∷ xs) ≡ (y ∷ ys) → x ≡ y
first_same x y xs ys e = cc

rest_same : {X : Type 0} (x y : X) (xs ys : List X) → (x ∷ xs) ≡ (y ∷ ys) → xs ≡ ys
rest_same x y xs ys e = cc

pub same_from_map : {X Y : Type 0} (f : X → Y) (P : X → Type 0) (xs ys : List X) → ((x y : X) → P x → P y → f x ≡ f y → x ≡ y) → AllByRecursion P xs → AllByRecursion P ys → map f xs ≡ map f ys → xs ≡ ys
same_from_map f P [] [] told h k e = refl
same_from_map f P [] (y ∷ ys) told h k e = absurd (omega (arith, ap length e))
same_from_map f P (x ∷ xs) [] told h k e = absurd (omega (arith, ap length e))
same_from_map f P (x ∷ xs) (y ∷ ys) told h k e =
    let here = told x y h.0 k.0 (first_same (f x) (f y) (map f xs) (map f ys) e) in
    let ih = same_from_map f P xs ys told h.1 k.1 (rest_same (f x) (f y) (map f xs) (map f ys) e) in
    cc

-- a chain, from its head and its number of postings: no record is empty, so the number says where it ends
abbrev chained : List RecordAt → ℕ
chained records = sum_by (λ (r : RecordAt). length r.postings) records

same_record : (r s : RecordAt) → r.page ≡ s.page → r.postings ≡ s.postings → r ≡ s
same_record r s p q = λ i. record { page = p i; postings = q i }

pub one_chain : (pages : Pages) (xs ys : List RecordAt) → ChainFits xs → ChainFits ys → SpellChain pages xs → SpellChain pages ys → head_of xs ≡ head_of ys → chained xs ≡ chained ys → xs ≡ ys
one_chain pages [] [] f g h k head total = refl
one_chain pages [] (y ∷ ys) f g h k head total = absurd (let some = g.0.has_a_posting in omega (arith, sum_by-cons (λ (r : RecordAt). length r.postings) y ys))
one_chain pages (x ∷ xs) [] f g h k head total = absurd (let some = f.0.has_a_posting in omega (arith, sum_by-cons (λ (r : RecordAt). length r.postings) x xs))
one_chain pages (x ∷ xs) (y ∷ ys) f g h k head total =
    let v = one_value record_image RecordFits record_in record_back pages x.page y.page (record_page x xs) (record_page y ys) f.0 g.0 h.0 k.0 head in
    let postings : x.postings ≡ y.postings = ap (λ (r : RecordPage). r.postings) v in
    let next : head_of xs ≡ head_of ys = ap (λ (r : RecordPage). r.next) v in
    let left : chained xs ≡ chained ys = omega (arith, sum_by-cons (λ (r : RecordAt). length r.postings) x xs, sum_by-cons (λ (r : RecordAt). length r.postings) y ys, ap length postings) in
    let here = same_record x y head postings in
    let ih = one_chain pages xs ys f.1 g.1 h.1 k.1 next left in
    cc

-- a free list, from its first page and its length
pub one_free_list : (pages : Pages) (xs ys : List ℕ) → FreeListFits xs → FreeListFits ys → SpellFree pages xs → SpellFree pages ys → next_free xs ≡ next_free ys → length xs ≡ length ys → xs ≡ ys
one_free_list pages [] [] f g h k first long = refl
one_free_list pages [] (y ∷ ys) f g h k first long = absurd (omega arith)
one_free_list pages (x ∷ xs) [] f g h k first long = absurd (omega arith)
one_free_list pages (x ∷ xs) (y ∷ ys) f g h k first long =
    let v = one_value free_image FreeFits free_in free_back pages x y (record { next = next_free xs }) (record { next = next_free ys }) f.0 g.0 h.0 k.0 first in
    let ih = one_free_list pages xs ys f.1 g.1 h.1 k.1 (ap (λ (p : FreePage). p.next) v) (omega arith) in
    cc

-- entries and leaves
same_entry : (e f : EntryAt) → e.key ≡ f.key → e.inline ≡ f.inline → e.records ≡ f.records → e ≡ f
same_entry e f p q r = λ i. record { key = p i; inline = q i; records = r i }

one_entry : (pages : Pages) (e f : EntryAt) → ChainFits e.records × SpellChain pages e.records → ChainFits f.records × SpellChain pages f.records → entry_in e ≡ entry_in f → e ≡ f
one_entry pages e f h k same =
    same_entry e f (ap (λ (x : LeafEntry). x.key) same) (ap (λ (x : LeafEntry). x.inline) same)
    (one_chain pages e.records f.records h.0 k.0 h.1 k.1 (ap (λ (x : LeafEntry). x.head) same) (ap (λ (x : LeafEntry). x.chained) same))

same_leaf : (a b : Leaf) → a.page ≡ b.page → a.next ≡ b.next → a.entries ≡ b.entries → a ≡ b
same_leaf a b p q r = λ i. record { page = p i; next = q i; entries = r i }

one_leaf : (pages : Pages) (a b : Leaf) → NodesFit zero a → NodesFit zero b → Spell pages zero a → Spell pages zero b → a.page ≡ b.page → a ≡ b
one_leaf pages a b f g h k root =
    let v = one_value leaf_image LeafFits leaf_in leaf_back pages a.page b.page (leaf_page a) (leaf_page b) f.0 g.0 h.0 k.0 root in
    let Fit : EntryAt → Type 0 = λ (e : EntryAt). ChainFits e.records in
    let Spelled : EntryAt → Type 0 = λ (e : EntryAt). SpellChain pages e.records in
    same_leaf a b root (ap (λ (p : LeafPage). p.next) v)
    (same_from_map entry_in (λ (e : EntryAt). ChainFits e.records × SpellChain pages e.records) a.entries b.entries (one_entry pages)
    (all_both Fit Spelled a.entries f.1 h.1)
    (all_both Fit Spelled b.entries g.1 k.1)
    (ap (λ (p : LeafPage). p.entries) v))

-- inner nodes, over what their children are
module _ {X : Type 0} where
  same_branch : (a b : Branch X) → a.key ≡ b.key → a.child ≡ b.child → a ≡ b
  same_branch a b p q = λ i. record { key = p i; child = q i }

  same_inner : (a b : Inner X) → a.page ≡ b.page → a.first ≡ b.first → a.rest ≡ b.rest → a ≡ b
  same_inner a b p q r = λ i. record { page = p i; first = q i; rest = r i }

  -- a row tells a child by its page
  one_branch : (root : X → ℕ) (P : X → Type 0) → ((t u : X) → P t → P u → root t ≡ root u → t ≡ u) → (a b : Branch X) → P a.child → P b.child → made_row a.key (root a.child) ≡ made_row b.key (root b.child) → a ≡ b
  one_branch root P told a b h k e =
      same_branch a b (ap (λ (row : InnerRow). row.key) e) (told a.child b.child h k (ap (λ (row : InnerRow). row.child) e))

  one_inner : (root : X → ℕ) (P : X → Type 0) → ((t u : X) → P t → P u → root t ≡ root u → t ≡ u) → (a b : Inner X) → P a.first → P b.first → AllByRecursion (λ (branch : Branch X). P branch.child) a.rest → AllByRecursion (λ (branch : Branch X). P branch.child) b.rest → a.page ≡ b.page → root a.first ≡ root b.first → map (λ (branch : Branch X). made_row branch.key (root branch.child)) a.rest ≡ map (λ (branch : Branch X). made_row branch.key (root branch.child)) b.rest → a ≡ b
  one_inner root P told a b h k hs ks page first rows =
      same_inner a b page (told a.first b.first h k first)
      (same_from_map (λ (branch : Branch X). made_row branch.key (root branch.child)) (λ (branch : Branch X). P branch.child) a.rest b.rest (one_branch root P told) hs ks rows)

pub one_tree : (pages : Pages) (levels : ℕ) (t u : Tree levels) → NodesFit levels t → NodesFit levels u → Spell pages levels t → Spell pages levels u → root_of levels t ≡ root_of levels u → t ≡ u
one_tree pages zero t u f g h k root = one_leaf pages t u f g h k root
one_tree pages (suc levels) t u f g h k root =
    let v = one_value inner_image InnerFits inner_in inner_back pages t.page u.page (inner_page levels t) (inner_page levels u) f.0 g.0 h.0 k.0 root in
    let Fit : Branch (Tree levels) → Type 0 = λ (branch : Branch (Tree levels)). NodesFit levels branch.child in
    let Spelled : Branch (Tree levels) → Type 0 = λ (branch : Branch (Tree levels)). Spell pages levels branch.child in
    one_inner (root_of levels) (λ (tree : Tree levels). NodesFit levels tree × Spell pages levels tree) (λ a b p q e. one_tree pages levels a b p.0 q.0 p.1 q.1 e) t u
    (f.1, h.1)
    (g.1, k.1)
    (all_both Fit Spelled t.rest f.2 h.2)
    (all_both Fit Spelled u.rest g.2 k.2)
    root
    (ap (λ (p : InnerPage). p.first) v)
    (ap (λ (p : InnerPage). p.rows) v)

-- trees of heights that agree
pub one_tree_of_some_height : (pages : Pages) (levels others : ℕ) (t : Tree levels) (u : Tree others) → levels ≡ others → NodesFit levels t → NodesFit others u → Spell pages levels t → Spell pages others u → root_of levels t ≡ root_of others u → ◌≡◌ {A = TreeOfSomeHeight} (levels, t) (others, u)
one_tree_of_some_height pages levels others t u e f g h k root =
    subst (λ (l : ℕ). (w : Tree l) → NodesFit l w → Spell pages l w → root_of levels t ≡ root_of l w → ◌≡◌ {A = TreeOfSomeHeight} (levels, t) (l, w)) e (λ w fits spelled same. ap (pair levels) (one_tree pages levels t w f fits h spelled same)) u g k root
  where
    pair : (l : ℕ) → Tree l → TreeOfSomeHeight
    pair l w = (l, w)

-- valid trees on the same pages: their headers agree, so their roots, and all that follows
pub headers_agree : (kind other : Kind) (pages : Pages) (a b : Entries) (one : Valid kind pages a) (two : Valid other pages b) → length pages ≤ 65536 → header_page one ≡ header_page two
headers_agree kind other pages a b one two few =
    one_value header_image HeaderFits header_in header_back pages 0 0 (header_page one) (header_page two) (header_fits kind pages a one few) (header_fits other pages b two few) one.header_agrees two.header_agrees refl

pub pages_hold_one_tree : PagesHoldOneTree
pages_hold_one_tree kind other pages a b one two few =
    let v = headers_agree kind other pages a b one two few in
    let levels : one.levels ≡ two.levels = let h = ap (λ (p : HeaderPage). p.height) v in omega arith in
    let tree = one_tree_of_some_height pages one.levels two.levels one.tree two.tree levels (nodes_fit_pages kind pages a one few) (nodes_fit_pages other pages b two few) one.nodes_are_spelled two.nodes_are_spelled (ap (λ (p : HeaderPage). p.root) v) in
    record {
      same_kind_code = ap (λ (p : HeaderPage). p.kind_code) v;
      same_height = levels;
      same_tree = tree;
      same_free_list = one_free_list pages one.free two.free (free_fit kind pages a one few) (free_fit other pages b two few) one.free_pages_are_spelled two.free_pages_are_spelled (ap (λ (p : HeaderPage). p.first_free) v) (ap (λ (p : HeaderPage). p.free) v);
      same_entries = sym one.holds_the_entries ∙ ap (λ (t : TreeOfSomeHeight). held_by t.0 t.1) tree ∙ two.holds_the_entries;
    }

pub entries_are_unique : EntriesAreUnique
entries_are_unique kind pages a b few one two = (pages_hold_one_tree kind kind pages a b one two few).same_entries
