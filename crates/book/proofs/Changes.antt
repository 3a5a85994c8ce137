-- What a change under one key does to a sorted list of keys: that key has the new value, every other what it had.
use Rattle.std.proofs.Common.{◌≡◌, Bool, true, false, cond, List, [], ◌∷◌, Some, None, Option, Ordering, Less, Equal, Greater, sym, refl, ap, ◌∙◌, subst}
use Rattle.std.specs.Ordering.{is_eq}
use Rattle.std.specs.List.{AllByRecursion}
use Rattle.keys.specs.Kinds.{Kind, Field, below}
use Rattle.keys.proofs.Orders.{order_same, same_from_order, less_from_below, below_from_less, below_from_greater, below_transitive}
use Rattle.batches.specs.KeyCheck.{above}
use Rattle.book.specs.Books.{Held, Keeping, by_order, value_at, put, changed, SortedFrom}

-- a test of equality, from bytes
pub equal_key : (kind : Kind) (a b : Field) → kind.lawful a ≡ true → a ≡ b → is_eq (kind.order a b) ≡ true
equal_key kind a b la e = ap is_eq (order_same kind a b la e)

pub other_key : (kind : Kind) (a b : Field) → kind.lawful a ≡ true → kind.lawful b ≡ true → (a ≡ b → ⊥) → is_eq (kind.order a b) ≡ false
other_key kind a b la lb ne = go (kind.order a b) refl
  where
    go : (o : Ordering) → kind.order a b ≡ o → is_eq o ≡ false
    go Less e = refl
    go Equal e = absurd (ne (same_from_order kind a b la lb e))
    go Greater e = refl

pub equal_from : (kind : Kind) (a b : Field) → kind.lawful a ≡ true → kind.lawful b ≡ true → is_eq (kind.order a b) ≡ true → a ≡ b
equal_from kind a b la lb e = same_from_order kind a b la lb (go (kind.order a b) e)
  where
    go : (o : Ordering) → is_eq o ≡ true → o ≡ Equal
    go Less e = cc
    go Equal e = refl
    go Greater e = cc

-- a bound is lawful, if there is one
abbrev pub LawfulBefore : Kind → Option Field → Type 0
LawfulBefore kind None = Unit {0}
LawfulBefore kind (Some f) = kind.lawful f ≡ true

-- above the one before, one further up
pub above_up : (kind : Kind) (before : Option Field) (a b : Field) → LawfulBefore kind before → kind.lawful a ≡ true → kind.lawful b ≡ true → above kind before a ≡ true → below kind a b ≡ true → above kind before b ≡ true
above_up kind None a b lf la lb h g = refl
above_up kind (Some f) a b lf la lb h g = below_transitive kind f a b lf la lb h g

-- `clear`: what has no postings is what stands under a key that is absent
module _ {V : Type 0} (kind : Kind) (keeping : Keeping V) (clear : (v : V) → keeping.is_none v ≡ true → v ≡ keeping.none) where
  -- a lower bound serves too
  pub sorted_lower : (before : Option Field) (b : Field) (list : List (Held V)) → LawfulBefore kind before → kind.lawful b ≡ true → above kind before b ≡ true → SortedFrom kind (Some b) list → SortedFrom kind before list
  sorted_lower before b [] lf lb h s = tt
  sorted_lower before b (held ∷ rest) lf lb h s = (s.0, above_up kind before b held.key lf lb s.0 h s.1, s.2)

  pub absent : (key : Field) (list : List (Held V)) → kind.lawful key ≡ true → SortedFrom kind (Some key) list → value_at kind keeping key list ≡ keeping.none
  absent key [] lk s = refl
  absent key (held ∷ rest) lk s =
      rw (less_from_below kind key held.key s.1) (absent key rest lk (sorted_lower (Some key) held.key rest lk s.0 s.1 s.2))

  put_here : (key : Field) (v : V) (rest : List (Held V)) → kind.lawful key ≡ true → value_at kind keeping key rest ≡ keeping.none → value_at kind keeping key (put keeping key v rest) ≡ v
  put_here key v rest lk a = go (keeping.is_none v) refl
    where
      go : (b : Bool) → keeping.is_none v ≡ b → value_at kind keeping key (cond b rest (record { key = key; value = v } ∷ rest)) ≡ v
      go true e = a ∙ sym (clear v e)
      go false e = rw (equal_key kind key key lk refl)

  put_other : (other key : Field) (v : V) (rest : List (Held V)) → is_eq (kind.order other key) ≡ false → value_at kind keeping other (put keeping key v rest) ≡ value_at kind keeping other rest
  put_other other key v rest ne = go (keeping.is_none v)
    where
      go : (b : Bool) → value_at kind keeping other (cond b rest (record { key = key; value = v } ∷ rest)) ≡ value_at kind keeping other rest
      go true = refl
      go false = rw ne

  put_sorted : (before : Option Field) (key : Field) (v : V) (rest : List (Held V)) → LawfulBefore kind before → kind.lawful key ≡ true → above kind before key ≡ true → SortedFrom kind (Some key) rest → SortedFrom kind before (put keeping key v rest)
  put_sorted before key v rest lf lk h s = go (keeping.is_none v)
    where
      go : (b : Bool) → SortedFrom kind before (cond b rest (record { key = key; value = v } ∷ rest))
      go true = sorted_lower before key rest lf lk h s
      go false = (lk, h, s)

  pub changed_sorted : (before : Option Field) (key : Field) (f : V → V) (list : List (Held V)) → LawfulBefore kind before → kind.lawful key ≡ true → above kind before key ≡ true → SortedFrom kind before list → SortedFrom kind before (changed kind keeping key f list)
  changed_sorted before key f [] lf lk h s = put_sorted before key (f keeping.none) [] lf lk h tt
  changed_sorted before key f (held ∷ rest) lf lk h s =
      go (kind.order key held.key) refl (λ g. changed_sorted (Some held.key) key f rest s.0 lk g s.2)
    where
      go : (o : Ordering) → kind.order key held.key ≡ o → (below kind held.key key ≡ true → SortedFrom kind (Some held.key) (changed kind keeping key f rest))
          → SortedFrom kind before (by_order o (put keeping key (f keeping.none) (held ∷ rest)) (put keeping key (f held.value) rest) (held ∷ changed kind keeping key f rest))
      go Less e ih = put_sorted before key (f keeping.none) (held ∷ rest) lf lk h (s.0, below_from_less kind key held.key e, s.2)
      go Equal e ih = put_sorted before key (f held.value) rest lf lk h (rw (same_from_order kind key held.key lk s.0 e) s.2)
      go Greater e ih = (s.0, s.1, ih (below_from_greater kind key held.key lk s.0 e))

  -- the key itself
  pub changed_here : (before : Option Field) (key : Field) (f : V → V) (list : List (Held V)) → kind.lawful key ≡ true → SortedFrom kind before list → value_at kind keeping key (changed kind keeping key f list) ≡ f (value_at kind keeping key list)
  changed_here before key f [] lk s = put_here key (f keeping.none) [] lk refl
  changed_here before key f (held ∷ rest) lk s = go (kind.order key held.key) refl (changed_here (Some held.key) key f rest lk s.2)
    where
      go : (o : Ordering) → kind.order key held.key ≡ o → value_at kind keeping key (changed kind keeping key f rest) ≡ f (value_at kind keeping key rest)
          → value_at kind keeping key (by_order o (put keeping key (f keeping.none) (held ∷ rest)) (put keeping key (f held.value) rest) (held ∷ changed kind keeping key f rest)) ≡ f (cond (is_eq o) held.value (value_at kind keeping key rest))
      go Less e ih =
          let lower : SortedFrom kind (Some key) (held ∷ rest) = (s.0, below_from_less kind key held.key e, s.2) in
          let gone : value_at kind keeping key rest ≡ keeping.none = absent key rest lk (sorted_lower (Some key) held.key rest lk s.0 lower.1 s.2) in
          put_here key (f keeping.none) (held ∷ rest) lk (absent key (held ∷ rest) lk lower) ∙ ap f (sym gone)
      go Equal e ih =
          let same = same_from_order kind key held.key lk s.0 e in
          put_here key (f held.value) rest lk (absent key rest lk (rw same s.2))
      go Greater e ih = rw e ih

  -- every other key
  pub changed_elsewhere : (before : Option Field) (key other : Field) (f : V → V) (list : List (Held V)) → kind.lawful key ≡ true → kind.lawful other ≡ true → (other ≡ key → ⊥) → SortedFrom kind before list → value_at kind keeping other (changed kind keeping key f list) ≡ value_at kind keeping other list
  changed_elsewhere before key other f [] lk lo ne s = put_other other key (f keeping.none) [] (other_key kind other key lo lk ne)
  changed_elsewhere before key other f (held ∷ rest) lk lo ne s = go (kind.order key held.key) refl (changed_elsewhere (Some held.key) key other f rest lk lo ne s.2)
    where
      go : (o : Ordering) → kind.order key held.key ≡ o → value_at kind keeping other (changed kind keeping key f rest) ≡ value_at kind keeping other rest
          → value_at kind keeping other (by_order o (put keeping key (f keeping.none) (held ∷ rest)) (put keeping key (f held.value) rest) (held ∷ changed kind keeping key f rest)) ≡ value_at kind keeping other (held ∷ rest)
      go Less e ih = put_other other key (f keeping.none) (held ∷ rest) (other_key kind other key lo lk ne)
      go Equal e ih =
          let same = same_from_order kind key held.key lk s.0 e in
          let skips : is_eq (kind.order other held.key) ≡ false = other_key kind other held.key lo s.0 (λ g. ne (g ∙ sym same)) in
          put_other other key (f held.value) rest (other_key kind other key lo lk ne) ∙ rw skips
      go Greater e ih = ap (λ (v : V). cond (is_eq (kind.order other held.key)) held.value v) ih

  put_all : (P : Held V → Type 0) (key : Field) (v : V) (rest : List (Held V)) → (keeping.is_none v ≡ false → P (record { key = key; value = v })) → AllByRecursion P rest → AllByRecursion P (put keeping key v rest)
  put_all P key v rest h a = go (keeping.is_none v) refl
    where
      go : (b : Bool) → keeping.is_none v ≡ b → AllByRecursion P (cond b rest (record { key = key; value = v } ∷ rest))
      go true e = a
      go false e = (h e, a)

  -- what holds of each key and of the changed one holds after
  pub changed_all : (P : Held V → Type 0) (before : Option Field) (key : Field) (f : V → V) (list : List (Held V)) → kind.lawful key ≡ true → SortedFrom kind before list
      → (keeping.is_none (f (value_at kind keeping key list)) ≡ false → P (record { key = key; value = f (value_at kind keeping key list) })) → AllByRecursion P list → AllByRecursion P (changed kind keeping key f list)
  changed_all P before key f [] lk s h a = put_all P key (f keeping.none) [] h tt
  changed_all P before key f (held ∷ rest) lk s h a = go (kind.order key held.key) refl h (λ g. changed_all P (Some held.key) key f rest lk s.2 g a.1)
    where
      Fine : V → Type 0
      Fine v = keeping.is_none (f v) ≡ false → P (record { key = key; value = f v })

      go : (o : Ordering) → kind.order key held.key ≡ o → Fine (cond (is_eq o) held.value (value_at kind keeping key rest)) → (Fine (value_at kind keeping key rest) → AllByRecursion P (changed kind keeping key f rest))
          → AllByRecursion P (by_order o (put keeping key (f keeping.none) (held ∷ rest)) (put keeping key (f held.value) rest) (held ∷ changed kind keeping key f rest))
      go Less e h ih =
          let gone : value_at kind keeping key rest ≡ keeping.none = absent key rest lk (sorted_lower (Some key) held.key rest lk s.0 (below_from_less kind key held.key e) s.2) in
          put_all P key (f keeping.none) (held ∷ rest) (subst Fine gone h) a
      go Equal e h ih = put_all P key (f held.value) rest h a.1
      go Greater e h ih = (a.0, ih h)
