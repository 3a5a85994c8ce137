-- The entry of a key stands in the leaf that the way down arrives at, if it stands anywhere. Assumes nothing.
use Rattle.std.proofs.Common.{◌≡◌, ℕ, ◌<◌, ◌≤◌, true, List, [], ◌∷◌, ◌++◌, map, length, Some, Result, sym, refl, ap, ◌∙◌, subst, append_assoc, append-nil, arith, MatchResult}
use Rattle.std.specs.List.{flat_map, AllByRecursion}
use Rattle.std.proofs.lemmas.Result.{MatchResult-weaker}
use Rattle.refusals.specs.declared.Refusal.{Refusal}
use Rattle.keys.specs.Kinds.{Kind, Field, below}
use Rattle.keys.proofs.Orders.{below_irreflexive}
use Rattle.nodes.specs.Layout.{LeafEntry, LeafPage}
use Rattle.nodes.specs.Meanings.{leaf_of}
use Rattle.book.specs.Books.{value_at}
use Rattle.book.specs.Entries.{Entries, paged}
use Rattle.tree.specs.Trees.{EntryAt, Leaf, entries_of, held, chain_pages}
use Rattle.tree.specs.Valid.{Pages, entry_in, head_of, SpellChain, Valid}
use Rattle.tree.proofs.Everywhere.{all_front, all_back, all_unmapped}
use Rattle.tree.proofs.Fitting.{ChainFits, Linkable}
use Rattle.calls.specs.declared.answers.Looked.{Looked}
use Rattle.calls.specs.States.{height_of}
use Rattle.calls.specs.Lookups.{entry_at}
use Rattle.searching.specs.declared.arrival.Descent.{Descent}
use Rattle.searching.specs.Descents.{Arrives}
use Rattle.searching.specs.Chains.{ChainFrom}
use Rattle.std.proofs.lemmas.List.Concat.{flat_map-append}
use Rattle.searching.proofs.Descending.{keys_lawful}
use Rattle.searching.proofs.Leaves.{LeafWhole, leaves_whole}
use Rattle.searching.proofs.Chained.{chain_from, chains_linkable, chains_short}
use Rattle.lookups.specs.Showing.{Lacks, FoundEntry, EntryShown, Shown}
use Rattle.lookups.proofs.Entries.{Other, passed_over, found_there, shown_as_found, shown_as_absent}

-- a list whose images fall apart around one falls apart itself
pub map_split : {X Y : Type 0} (f : X → Y) (xs : List X) (before after : List Y) (y : Y) → map f xs ≡ before ++ (y ∷ after) → (front : List X) × (x : X) × (back : List X) × (xs ≡ front ++ (x ∷ back)) × (map f front ≡ before) × (f x ≡ y)
map_split f [] [] after y e = cc
map_split f [] (b ∷ before) after y e = cc
map_split f (x ∷ xs) [] after y e = ([], x, xs, refl, refl, cc)
map_split f (x ∷ xs) (b ∷ before) after y e =
    let rest : map f xs ≡ before ++ (y ∷ after) = cc in
    let head : f x ≡ b = cc in
    let ih = map_split f xs before after y rest in
    (x ∷ ih.0, ih.1, ih.2, ap (λ (ys : List _). x ∷ ys) {y = ih.0 ++ (ih.1 ∷ ih.2)} ih.3, (λ i. head i ∷ ih.4 i), ih.5)

module _ (kind : Kind) (key : Field) (lk : kind.lawful key ≡ true) where
  -- entries below or above a key are others
  others_below : (es : List EntryAt) → AllByRecursion (λ (e : EntryAt). kind.lawful e.key ≡ true) es → AllByRecursion (λ (e : EntryAt). below kind e.key key ≡ true) es → AllByRecursion (Other kind key lk) es
  others_below [] lawful all = tt
  others_below (e ∷ es) lawful all =
      ((lawful.0, λ same. let own : below kind key key ≡ true = ap (λ (k : Field). below kind k key) (sym same) ∙ all.0 in let none = below_irreflexive kind key lk in cc), others_below es lawful.1 all.1)

  others_above : (es : List EntryAt) → AllByRecursion (λ (e : EntryAt). kind.lawful e.key ≡ true) es → AllByRecursion (λ (e : EntryAt). below kind key e.key ≡ true) es → AllByRecursion (Other kind key lk) es
  others_above [] lawful all = tt
  others_above (e ∷ es) lawful all =
      ((lawful.0, λ same. let own : below kind key key ≡ true = ap (λ (k : Field). below kind key k) (sym same) ∙ all.0 in let none = below_irreflexive kind key lk in cc), others_above es lawful.1 all.1)

  others_lacking : (es : List EntryAt) → AllByRecursion (λ (e : EntryAt). kind.lawful e.key ≡ true) es → Lacks key (map entry_in es) → AllByRecursion (Other kind key lk) es
  others_lacking [] lawful lacks = tt
  others_lacking (e ∷ es) lawful lacks = ((lawful.0, lacks.0), others_lacking es lawful.1 lacks.1)

module _ {kind : Kind} {pages : Pages} {entries : Entries} (valid : Valid kind pages entries) (few : length pages ≤ 65536) {key : Field} (lk : kind.lawful key ≡ true) {descent : Descent} (there : Arrives valid key descent) where
  in_leaves : List Leaf → List EntryAt
  in_leaves leaves = flat_map (λ (leaf : Leaf). leaf.entries) leaves

  all_entries : entries_of valid.levels valid.tree ≡ in_leaves there.left ++ (there.leaf.entries ++ in_leaves there.right)
  unfolding in_leaves
  all_entries = ap (flat_map (λ (leaf : Leaf). leaf.entries)) there.is_among_the_leaves ∙ flat_map-append (λ (leaf : Leaf). leaf.entries) there.left (there.leaf ∷ there.right)

  all_lawful : AllByRecursion (λ (e : EntryAt). kind.lawful e.key ≡ true) (in_leaves there.left ++ (there.leaf.entries ++ in_leaves there.right))
  all_lawful =
      subst (AllByRecursion (λ (e : EntryAt). kind.lawful e.key ≡ true)) all_entries
      (all_unmapped (λ (k : Field). kind.lawful k ≡ true) (λ (e : EntryAt). e.key) (entries_of valid.levels valid.tree) (keys_lawful kind valid.levels valid.tree valid.keys_are_in_order))

  leaf_lawful : AllByRecursion (λ (e : EntryAt). kind.lawful e.key ≡ true) there.leaf.entries
  leaf_lawful = all_front (λ (e : EntryAt). kind.lawful e.key ≡ true) there.leaf.entries (in_leaves there.right) (all_back (λ (e : EntryAt). kind.lawful e.key ≡ true) (in_leaves there.left) (there.leaf.entries ++ in_leaves there.right) all_lawful)

  left_others : AllByRecursion (Other kind key lk) (in_leaves there.left)
  unfolding in_leaves
  left_others =
      others_below kind key lk (in_leaves there.left) (all_front (λ (e : EntryAt). kind.lawful e.key ≡ true) (in_leaves there.left) (there.leaf.entries ++ in_leaves there.right) all_lawful)
      (all_unmapped (λ (k : Field). below kind k key ≡ true) (λ (e : EntryAt). e.key) (in_leaves there.left) there.left_lies_below)

  right_others : AllByRecursion (Other kind key lk) (in_leaves there.right)
  unfolding in_leaves
  right_others =
      others_above kind key lk (in_leaves there.right) (all_back (λ (e : EntryAt). kind.lawful e.key ≡ true) there.leaf.entries (in_leaves there.right) (all_back (λ (e : EntryAt). kind.lawful e.key ≡ true) (in_leaves there.left) (there.leaf.entries ++ in_leaves there.right) all_lawful))
      (all_unmapped (λ (k : Field). below kind key k ≡ true) (λ (e : EntryAt). e.key) (in_leaves there.right) there.right_lies_above)

  -- so only the leaf matters
  in_the_leaf : entry_at kind entries key ≡ value_at kind paged key (map held (there.leaf.entries ++ in_leaves there.right))
  in_the_leaf =
      ap (λ (es : Entries). value_at kind paged key es) (sym valid.holds_the_entries)
      ∙ (ap (λ (es : List EntryAt). value_at kind paged key (map held es)) all_entries ∙ passed_over kind key lk (in_leaves there.left) (there.leaf.entries ++ in_leaves there.right) left_others)

  nothing_right : value_at kind paged key (map held (in_leaves there.right)) ≡ paged.none
  nothing_right = ap (λ (es : List EntryAt). value_at kind paged key (map held es)) (sym (append-nil (in_leaves there.right))) ∙ passed_over kind key lk (in_leaves there.right) [] right_others

  pub lacking_is_absent : Lacks key (map entry_in there.leaf.entries) → entry_at kind entries key ≡ paged.none
  lacking_is_absent lacks = in_the_leaf ∙ (passed_over kind key lk there.leaf.entries (in_leaves there.right) (others_lacking kind key lk there.leaf.entries leaf_lawful lacks) ∙ nothing_right)

  -- what an entry of the leaf is known by
  pub record Known (found : EntryAt) : Type 0 where
    pub is_the_entry : entry_at kind entries key ≡ (held found).value
    pub is_chained : ChainFrom pages (head_of found.records) found.records
    pub is_short : length found.records ≤ length pages

  the_leaf : LeafWhole kind pages there.leaf
  the_leaf = (all_back (LeafWhole kind pages) there.left (there.leaf ∷ there.right) (subst (AllByRecursion (LeafWhole kind pages)) there.is_among_the_leaves (leaves_whole kind pages entries valid few))).0

  of_the_leaf : (P : EntryAt → Type 0) → AllByRecursion P (entries_of valid.levels valid.tree) → AllByRecursion P there.leaf.entries
  of_the_leaf P all = all_front P there.leaf.entries (in_leaves there.right) (all_back P (in_leaves there.left) (there.leaf.entries ++ in_leaves there.right) (subst (AllByRecursion P) all_entries all))

  one_of : (P : EntryAt → Type 0) (front back : List EntryAt) (found : EntryAt) → there.leaf.entries ≡ front ++ (found ∷ back) → AllByRecursion P there.leaf.entries → P found
  one_of P front back found is all = (all_back P front (found ∷ back) (subst (AllByRecursion P) is all)).0

  known : (front back : List EntryAt) (found : EntryAt) → there.leaf.entries ≡ front ++ (found ∷ back) → Lacks key (map entry_in front) → found.key ≡ key → Known found
  known front back found is lacks same =
      record {
        is_the_entry = in_the_leaf
            ∙ (ap (λ (es : List EntryAt). value_at kind paged key (map held (es ++ in_leaves there.right))) is
            ∙ (ap (λ (es : List EntryAt). value_at kind paged key (map held es)) (append_assoc front (found ∷ back) (in_leaves there.right))
            ∙ (passed_over kind key lk front (found ∷ (back ++ in_leaves there.right)) (others_lacking kind key lk front (all_front (λ (e : EntryAt). kind.lawful e.key ≡ true) front (found ∷ back) (subst (AllByRecursion (λ (e : EntryAt). kind.lawful e.key ≡ true)) is leaf_lawful)) lacks)
            ∙ found_there kind key lk found (back ++ in_leaves there.right) same)));
        is_chained = chain_from pages (length pages) found.records
            (one_of (λ (e : EntryAt). SpellChain pages e.records) front back found is the_leaf.spelled.1)
            (one_of (λ (e : EntryAt). ChainFits e.records) front back found is the_leaf.fits.1)
            (one_of (λ (e : EntryAt). AllByRecursion (Linkable (length pages)) (chain_pages e)) front back found is (of_the_leaf (λ (e : EntryAt). AllByRecursion (Linkable (length pages)) (chain_pages e)) (chains_linkable kind pages entries valid)));
        is_short = (let short = one_of (λ (e : EntryAt). length e.records < length pages) front back found is (of_the_leaf (λ (e : EntryAt). length e.records < length pages) (chains_short kind pages entries valid)) in omega arith);
      }

  pub found_is_known : (x : LeafEntry) → FoundEntry key (map entry_in there.leaf.entries) (Some x) → (found : EntryAt) × (x ≡ entry_in found) × Known found
  found_is_known x (before, after, split, lacks, same) =
      let parts = map_split entry_in there.leaf.entries before after x split in
      (parts.1, sym parts.5, known parts.0 parts.2 parts.1 parts.3 (subst (Lacks key) (sym parts.4) lacks) (ap (λ (e : LeafEntry). e.key) parts.5 ∙ same))

  -- what the leaf shows is what the book has
  in_page : (P : List LeafEntry → Type 0) → P (leaf_of descent.leaf).entries → P (map entry_in there.leaf.entries)
  in_page P p = subst (λ (v : LeafPage). P v.entries) there.was_read p

  pub shows_absent : (list : List ℕ) (looked : Looked) → Lacks key (leaf_of descent.leaf).entries → looked.total ≡ 0 → looked.written ≡ 0 → looked.reads ≡ descent.reads → Shown valid key list looked list
  shows_absent list looked lacks total written reads =
      let both = shown_as_absent kind key lk (height_of valid) entries list looked (lacking_is_absent (in_page (Lacks key) lacks)) total written (reads ∙ there.one_read_a_level) in
      record { answers_by_the_book = both.0; writes_by_the_book = both.1 }

  pub shows_found : (list after : List ℕ) (x : LeafEntry) → FoundEntry key (leaf_of descent.leaf).entries (Some x) → (r : Result Looked Refusal)
      → ((found : EntryAt) → x ≡ entry_in found → ChainFrom pages (head_of found.records) found.records → length found.records ≤ length pages → MatchResult r (λ (looked : Looked). EntryShown found descent.reads list looked after) (λ _. ⊥))
      → MatchResult r (λ (looked : Looked). Shown valid key list looked after) (λ _. ⊥)
  shows_found list after x found r shows =
      let one = found_is_known x (in_page (λ (es : List LeafEntry). FoundEntry key es (Some x)) found) in
      MatchResult-weaker r (shows one.0 one.1 one.2.is_chained one.2.is_short)
      (λ looked shown'.
      let raised = subst (λ (n : ℕ). EntryShown one.0 n list looked after) there.one_read_a_level shown' in
      let both = shown_as_found kind key lk (height_of valid) entries list one.0 looked after one.2.is_the_entry raised in
      record { answers_by_the_book = both.0; writes_by_the_book = both.1 })
      (λ refusal none. none)
