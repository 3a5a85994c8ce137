-- Keys rise over a whole tree, since children keep to their ranges. Assumes nothing.
use Rattle.std.proofs.Common.{◌≡◌, ℕ, zero, suc, Bool, true, false, List, [], ◌∷◌, ◌++◌, map, Some, None, Option, sym, refl, ap, ◌∙◌, subst, ⊎_elim}
use Rattle.std.proofs.ByRecursion.{All-append, All-weaker}
use Rattle.std.proofs.lemmas.List.{append_assoc, append-nil, map-append}
use Rattle.std.proofs.lemmas.Bool.{both_ways}
use Rattle.std.specs.List.{flat_map, AllByRecursion}
use Rattle.keys.specs.Kinds.{Kind, Field, below}
use Rattle.keys.proofs.Orders.{below_transitive, above_or_same}
use Rattle.batches.specs.KeyCheck.{above}
use Rattle.tree.specs.Trees.{EntryAt, Leaf, Branch, Tree, each_child, leaves_of, entries_of, keys_of}
use Rattle.tree.specs.Valid.{Rise, From, Below, InRange, Ordered}
use Rattle.tree.proofs.Everywhere.{all_both}
use Rattle.tree.proofs.Fitting.{rise_lawful}

-- lists put together, cut otherwise
pub joined_append : {X A : Type 0} (f : X → List A) (xs ys : List X) → flat_map f (xs ++ ys) ≡ flat_map f xs ++ flat_map f ys
joined_append f [] ys = refl
joined_append f (x ∷ xs) ys = ap (λ (list : List _). f x ++ list) (joined_append f xs ys) ∙ sym (append_assoc (f x) (flat_map f xs) (flat_map f ys))

pub joined_joined : {X Y A : Type 0} (f : Y → List A) (g : X → List Y) (xs : List X) → flat_map f (flat_map g xs) ≡ flat_map (λ (x : X). flat_map f (g x)) xs
joined_joined f g [] = refl
joined_joined f g (x ∷ xs) = joined_append f (g x) (flat_map g xs) ∙ ap (λ (list : List _). flat_map f (g x) ++ list) (joined_joined f g xs)

pub map_joined : {X Y Z : Type 0} (f : Y → Z) (g : X → List Y) (xs : List X) → map f (flat_map g xs) ≡ flat_map (λ (x : X). map f (g x)) xs
map_joined f g [] = refl
map_joined f g (x ∷ xs) = map-append f (g x) (flat_map g xs) ∙ ap (λ (list : List _). map f (g x) ++ list) (map_joined f g xs)

-- the entries and keys of an inner node are those of its children
pub entries_of_children : (levels : ℕ) (node : Tree (suc levels)) → entries_of (suc levels) node ≡ each_child (entries_of levels) node
entries_of_children levels node =
    let entries : Leaf → List EntryAt = λ (leaf : Leaf). leaf.entries in
    let leaves : Branch (Tree levels) → List Leaf = λ (branch : Branch (Tree levels)). leaves_of levels branch.child in
    joined_append entries (leaves_of levels node.first) (flat_map leaves node.rest)
    ∙ ap (λ (list : List EntryAt). entries_of levels node.first ++ list) (joined_joined entries leaves node.rest)

pub keys_of_children : (levels : ℕ) (node : Tree (suc levels)) → keys_of (suc levels) node ≡ each_child (keys_of levels) node
keys_of_children levels node =
    let key : EntryAt → Field = λ (entry : EntryAt). entry.key in
    let entries : Branch (Tree levels) → List EntryAt = λ (branch : Branch (Tree levels)). entries_of levels branch.child in
    ap (map key) (entries_of_children levels node)
    ∙ map-append key (entries_of levels node.first) (flat_map entries node.rest)
    ∙ ap (λ (list : List Field). keys_of levels node.first ++ list) (map_joined key entries node.rest)

module _ (kind : Kind) where
  abbrev pub Lawful : Field → Type 0
  Lawful key = kind.lawful key ≡ true

  -- a bound, if there is one, is lawful
  abbrev pub LawfulBound : Option Field → Type 0
  LawfulBound None = Unit {0}
  LawfulBound (Some bound) = Lawful bound

  -- a key from a higher bound on lies from the lower one on, and above what the bound lies above
  pub from_lower : (low : Option Field) (bound key : Field) → LawfulBound low → Lawful bound → Lawful key → above kind low bound ≡ true → below kind key bound ≡ false → From kind low key
  from_lower None bound key ll lb lk up from = tt
  from_lower (Some low) bound key ll lb lk up from = go (below kind key low) refl
    where
      go : (b : Bool) → below kind key low ≡ b → b ≡ false
      go true e = absurd (both_ways (below kind key bound) from (below_transitive kind key low bound lk ll lb e up))
      go false e = refl

  pub above_lower : (before : Option Field) (bound key : Field) → LawfulBound before → Lawful bound → Lawful key → above kind before bound ≡ true → below kind key bound ≡ false → above kind before key ≡ true
  above_lower None bound key ll lb lk up from = refl
  above_lower (Some low) bound key ll lb lk up from =
      ⊎_elim (λ (same : key ≡ bound). rw same up) (λ more. below_transitive kind low bound key ll lb lk up more) (above_or_same kind key bound lk lb from)

  -- rising keys below a bound, then rising keys from the bound on
  rise_on : (before : Option Field) (bound : Field) (ys : List Field) → LawfulBound before → Lawful bound → above kind before bound ≡ true → Rise kind None ys → AllByRecursion (From kind (Some bound)) ys → Rise kind before ys
  rise_on before bound [] ll lb up rise from = tt
  rise_on before bound (y ∷ ys) ll lb up rise from = (rise.0, above_lower before bound y ll lb rise.0 up from.0, rise.2)

  pub rise_append : (before : Option Field) (bound : Field) (xs ys : List Field) → LawfulBound before → Lawful bound → above kind before bound ≡ true → Rise kind before xs → AllByRecursion (Below kind (Some bound)) xs → Rise kind None ys → AllByRecursion (From kind (Some bound)) ys → Rise kind before (xs ++ ys)
  rise_append before bound [] ys ll lb up rise under later from = rise_on before bound ys ll lb up later from
  rise_append before bound (x ∷ xs) ys ll lb up rise under later from =
      (rise.0, rise.1, rise_append (Some x) bound xs ys rise.0 lb under.0 rise.2 under.1 later from)

  module _ {X : Type 0} (keys : X → List Field) where
    -- the keys of a child and of those right of it
    abbrev pub keys_from : X → List (Branch X) → List Field
    keys_from child rest = keys child ++ flat_map (λ (branch : Branch X). keys branch.child) rest

    -- none of them lies below the bound of the first
    pub all_from : (low : Option Field) (child : X) (rest : List (Branch X)) → LawfulBound low → Rise kind low (map (λ (branch : Branch X). branch.key) rest) → InRange kind keys low child rest → AllByRecursion Lawful (keys child) → AllByRecursion (λ (branch : Branch X). AllByRecursion Lawful (keys branch.child)) rest → AllByRecursion (λ (key : Field). Lawful key × From kind low key) (keys_from child rest)
    all_from low child [] ll seps range lawful rest =
        rw (append-nil (keys child)) (all_both Lawful (From kind low) (keys child) lawful (All-weaker (λ key. From kind low key × Below kind None key) (From kind low) (λ key h. h.0) (keys child) range))
    all_from low child (branch ∷ branches) ll seps range lawful rest =
        All-append (λ key. Lawful key × From kind low key) (keys child) (keys_from branch.child branches)
        (all_both Lawful (From kind low) (keys child) lawful (All-weaker (λ key. From kind low key × Below kind (Some branch.key) key) (From kind low) (λ key h. h.0) (keys child) range.0))
        (All-weaker (λ key. Lawful key × From kind (Some branch.key) key) (λ key. Lawful key × From kind low key) (λ key h. (h.0, from_lower low branch.key key ll seps.0 h.0 seps.1 h.1)) (keys_from branch.child branches) (all_from (Some branch.key) branch.child branches seps.0 seps.2 range.1 rest.0 rest.1))

    pub children_rise : (low : Option Field) (child : X) (rest : List (Branch X)) → LawfulBound low → Rise kind low (map (λ (branch : Branch X). branch.key) rest) → InRange kind keys low child rest → Rise kind None (keys child) → AllByRecursion (λ (branch : Branch X). Rise kind None (keys branch.child)) rest → Rise kind None (keys_from child rest)
    children_rise low child [] ll seps range rise rises = rw (append-nil (keys child)) rise
    children_rise low child (branch ∷ branches) ll seps range rise rises =
        let lawful : AllByRecursion Lawful (keys branch.child) = rise_lawful kind None (keys branch.child) rises.0 in
        let later = all_from (Some branch.key) branch.child branches seps.0 seps.2 range.1 lawful (All-weaker (λ (b : Branch X). Rise kind None (keys b.child)) (λ (b : Branch X). AllByRecursion Lawful (keys b.child)) (λ b h. rise_lawful kind None (keys b.child) h) branches rises.1) in
        rise_append None branch.key (keys child) (keys_from branch.child branches) tt seps.0 refl rise
        (All-weaker (λ key. From kind low key × Below kind (Some branch.key) key) (Below kind (Some branch.key)) (λ key h. h.1) (keys child) range.0)
        (children_rise (Some branch.key) branch.child branches seps.0 seps.2 range.1 rises.0 rises.1)
        (All-weaker (λ key. Lawful key × From kind (Some branch.key) key) (From kind (Some branch.key)) (λ key h. h.1) (keys_from branch.child branches) later)

  pub keys_rise : (levels : ℕ) (tree : Tree levels) → Ordered kind levels tree → Rise kind None (keys_of levels tree)
  keys_rise zero tree ordered = rw (append-nil tree.entries) ordered
  keys_rise (suc levels) tree ordered =
      let rest = All-weaker (λ (branch : Branch (Tree levels)). Ordered kind levels branch.child) (λ (branch : Branch (Tree levels)). Rise kind None (keys_of levels branch.child)) (λ branch h. keys_rise levels branch.child h) tree.rest ordered.3 in
      subst (Rise kind None) (sym (keys_of_children levels tree)) (children_rise (keys_of levels) None tree.first tree.rest tt ordered.0 ordered.1 (keys_rise levels tree.first ordered.2) rest)

  pub keys_lawful : (levels : ℕ) (tree : Tree levels) → Ordered kind levels tree → AllByRecursion Lawful (keys_of levels tree)
  keys_lawful levels tree ordered = rise_lawful kind None (keys_of levels tree) (keys_rise levels tree ordered)
