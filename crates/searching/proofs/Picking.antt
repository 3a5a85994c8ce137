-- One level of the way down: the child for a key, with all keys left of it below and all right of it above. Assumes nothing.
use Rattle.std.proofs.Common.{◌≡◌, ℕ, Bool, true, false, cond, List, [], ◌∷◌, ◌++◌, map, Some, None, Option, sym, refl, ap, ◌∙◌, subst, append_assoc, arith}
use Rattle.std.specs.List.{flat_map, AllByRecursion}
use Rattle.std.proofs.lemmas.List.{map-append}
use Rattle.std.proofs.ByRecursion.{All-append}
use Rattle.std.proofs.lemmas.Bool.{ltb-true, ltb-false, lt-ltb}
use Rattle.keys.specs.Kinds.{Kind, Field, below}
use Rattle.keys.specs.Ranks.{rank}
use Rattle.keys.proofs.Orders.{below_asymmetric}
use Rattle.keys.proofs.Ranks.{below_is_of_ranks}
use Rattle.nodes.specs.Layout.{InnerRow}
use Rattle.tree.specs.Trees.{EntryAt, Leaf, Branch}
use Rattle.tree.specs.Valid.{Rise, From, Between, InRange}
use Rattle.searching.specs.Descents.{child_for, keys_in}

pub joined_append : {X A : Type 0} (f : X → List A) (xs ys : List X) → flat_map f (xs ++ ys) ≡ flat_map f xs ++ flat_map f ys
joined_append f [] ys = refl
joined_append f (x ∷ xs) ys = ap (λ (zs : List _). f x ++ zs) (joined_append f xs ys) ∙ sym (append_assoc (f x) (flat_map f xs) (flat_map f ys))

pub keys_append : (a b : List Leaf) → keys_in (a ++ b) ≡ keys_in a ++ keys_in b
keys_append a b = ap (map (λ (entry : EntryAt). entry.key)) (joined_append (λ (leaf : Leaf). leaf.entries) a b) ∙ map-append (λ (entry : EntryAt). entry.key) (flat_map (λ (leaf : Leaf). leaf.entries) a) (flat_map (λ (leaf : Leaf). leaf.entries) b)

pub all_keys : (P : Field → Type 0) (a b : List Leaf) → AllByRecursion P (keys_in a) → AllByRecursion P (keys_in b) → AllByRecursion P (keys_in (a ++ b))
all_keys P a b h k = subst (AllByRecursion P) (sym (keys_append a b)) (All-append P (keys_in a) (keys_in b) h k)

module _ (kind : Kind) where
  -- below one that is not above another
  pub below_not_above : (a b d : Field) → kind.lawful a ≡ true → kind.lawful b ≡ true → kind.lawful d ≡ true → below kind a b ≡ true → below kind d b ≡ false → below kind a d ≡ true
  below_not_above a b d la lb ld h g =
      let less = ltb-true (rank kind a) (rank kind b) (sym (below_is_of_ranks kind a b la lb) ∙ h) in
      let most = ltb-false (rank kind d) (rank kind b) (sym (below_is_of_ranks kind d b ld lb) ∙ g) in
      below_is_of_ranks kind a d la ld ∙ lt-ltb (rank kind a) (rank kind d) (omega arith)

-- the row of a child in its parent's page
abbrev pub rows_for : {X : Type 0} → (X → ℕ) → List (Branch X) → List InnerRow
rows_for root rest = map (λ branch. record { key = branch.key; child = root branch.child }) rest

module _ (kind : Kind) (key : Field) (lk : kind.lawful key ≡ true) {X : Type 0} (P : X → Type 0) (root : X → ℕ) (leaves : X → List Leaf) where
  abbrev pub LawfulKeys : X → Type 0
  LawfulKeys x = AllByRecursion (λ k. kind.lawful k ≡ true) (keys_in (leaves x))

  abbrev pub others : List (Branch X) → List Leaf
  others rest = flat_map (λ (branch : Branch X). leaves branch.child) rest

  -- the child for a key among a first one and others
  pub record Picked (first : X) (rest : List (Branch X)) : Type 0 where
    pub child : X
    pub sound : P child
    pub left : List Leaf
    pub right : List Leaf
    pub split : leaves first ++ others rest ≡ left ++ (leaves child ++ right)
    pub left_below : AllByRecursion (λ k. below kind k key ≡ true) (keys_in left)
    pub right_above : AllByRecursion (λ k. below kind key k ≡ true) (keys_in right)
    pub is_chosen : root child ≡ child_for kind key (root first) (rows_for root rest)

  -- from a separator above the key on, all keys lie above it
  above_all : (low : Field) (keys : List Field) → kind.lawful low ≡ true → below kind key low ≡ true → AllByRecursion (λ k. kind.lawful k ≡ true) keys → AllByRecursion (λ k. From kind (Some low) k) keys → AllByRecursion (λ k. below kind key k ≡ true) keys
  above_all low [] ll up lawful from = tt
  above_all low (k ∷ ks) ll up lawful from =
      (below_not_above kind key low k lk ll lawful.0 up from.0, above_all low ks ll up lawful.1 from.1)

  from_only : (low high : Option Field) (keys : List Field) → Between kind low high keys → AllByRecursion (λ k. From kind low k) keys
  from_only low high [] all = tt
  from_only low high (k ∷ ks) all = (all.0.0, from_only low high ks all.1)

  later_above : (low : Field) (child : X) (rest : List (Branch X)) → kind.lawful low ≡ true → below kind key low ≡ true
      → InRange kind (λ x. keys_in (leaves x)) (Some low) child rest → Rise kind (Some low) (map (λ (branch : Branch X). branch.key) rest) → LawfulKeys child → AllByRecursion (λ (branch : Branch X). LawfulKeys branch.child) rest
      → AllByRecursion (λ k. below kind key k ≡ true) (keys_in (leaves child ++ others rest))
  later_above low child [] ll up range rise lc lr =
      all_keys (λ k. below kind key k ≡ true) (leaves child) [] (above_all low (keys_in (leaves child)) ll up lc (from_only (Some low) None (keys_in (leaves child)) range)) tt
  later_above low child (b ∷ bs) ll up range rise lc lr =
      all_keys (λ k. below kind key k ≡ true) (leaves child) (leaves b.child ++ others bs)
      (above_all low (keys_in (leaves child)) ll up lc (from_only (Some low) (Some b.key) (keys_in (leaves child)) range.0))
      (later_above b.key b.child bs rise.0 (above_all low (b.key ∷ []) ll up (rise.0, tt) (below_asymmetric kind low b.key ll rise.0 rise.1, tt)).0 range.1 rise.2 lr.0 lr.1)

  -- up to a separator that is not above the key, all keys lie below it
  below_all : (low : Option Field) (high : Field) (keys : List Field) → kind.lawful high ≡ true → below kind key high ≡ false → AllByRecursion (λ k. kind.lawful k ≡ true) keys → Between kind low (Some high) keys → AllByRecursion (λ k. below kind k key ≡ true) keys
  below_all low high [] lh down lawful all = tt
  below_all low high (k ∷ ks) lh down lawful all =
      (below_not_above kind k high key lawful.0 lh lk all.0.1 down, below_all low high ks lh down lawful.1 all.1)

  pub pick : (before low : Option Field) (first : X) (rest : List (Branch X)) → P first → AllByRecursion (λ (branch : Branch X). P branch.child) rest
      → InRange kind (λ x. keys_in (leaves x)) low first rest → Rise kind before (map (λ (branch : Branch X). branch.key) rest) → LawfulKeys first → AllByRecursion (λ (branch : Branch X). LawfulKeys branch.child) rest → Picked first rest
  pick before low first [] p ps range rise lf lr =
      record { child = first; sound = p; left = []; right = []; split = refl; left_below = tt; right_above = tt; is_chosen = refl }
  pick before low first (b ∷ bs) p ps range rise lf lr =
      go (below kind key b.key) refl (pick (Some b.key) (Some b.key) b.child bs ps.0 ps.1 range.1 rise.2 lr.0 lr.1)
    where
      go : (t : Bool) → below kind key b.key ≡ t → Picked b.child bs → Picked first (b ∷ bs)
      go true e further =
          record {
            child = first;
            sound = p;
            left = [];
            right = others (b ∷ bs);
            split = refl;
            left_below = tt;
            right_above = later_above b.key b.child bs rise.0 e range.1 rise.2 lr.0 lr.1;
            is_chosen = sym (ap (λ (t : Bool). cond t (root first) (child_for kind key (root b.child) (rows_for root bs))) e);
          }
      go false e further =
          record {
            child = further.child;
            sound = further.sound;
            left = leaves first ++ further.left;
            right = further.right;
            split = ap (λ (ls : List Leaf). leaves first ++ ls) further.split ∙ sym (append_assoc (leaves first) further.left (leaves further.child ++ further.right));
            left_below = all_keys (λ k. below kind k key ≡ true) (leaves first) further.left (below_all low b.key (keys_in (leaves first)) rise.0 e lf range.0) further.left_below;
            right_above = further.right_above;
            is_chosen = further.is_chosen ∙ sym (ap (λ (t : Bool). cond t (root first) (child_for kind key (root b.child) (rows_for root bs))) e);
          }
