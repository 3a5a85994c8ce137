-- What every kind's order is, drawn from the laws alone: for proofs about sorted keys of any kind.
use Rattle.std.proofs.Common.{◌≡◌, true, false, ◌⊎◌, neg_ℤ, Ordering, Less, Equal, Greater, sym, refl, ap, ◌∙◌, inl, inr, ⊎_elim}
use Rattle.std.specs.Ordering.{is_lt, ordering_reverse}
use Rattle.std.proofs.lemmas.Bool.{true≢false}
use Rattle.keys.specs.Kinds.{Field, Kind, value_of, below}
use Rattle.keys.specs.Making.{value_less, value_equal}

-- an answer and its value
pub value_reversed : (o p : Ordering) → value_of p ≡ neg_ℤ (value_of o) → p ≡ ordering_reverse o
value_reversed Less Less e = cc
value_reversed Less Equal e = cc
value_reversed Less Greater e = refl
value_reversed Equal Less e = cc
value_reversed Equal Equal e = refl
value_reversed Equal Greater e = cc
value_reversed Greater Less e = refl
value_reversed Greater Equal e = cc
value_reversed Greater Greater e = cc

-- `below` as a test of the answer
pub less_is_below : (o : Ordering) → o ≡ Less → is_lt o ≡ true
less_is_below o e = ap is_lt e

pub below_is_less : (o : Ordering) → is_lt o ≡ true → o ≡ Less
below_is_less Less e = refl
below_is_less Equal e = cc
below_is_less Greater e = cc

one_of_three : (o : Ordering) → (o ≡ Less) ⊎ ((o ≡ Equal) ⊎ (o ≡ Greater))
one_of_three Less = inl refl
one_of_three Equal = inr (inl refl)
one_of_three Greater = inr (inr refl)

module _ (kind : Kind) where
  -- 0 exactly for equal bytes
  pub order_self : (a : Field) → kind.lawful a ≡ true → kind.order a a ≡ Equal
  order_self a la = value_equal (kind.order a a) (kind.equal_bytes_give_0 a la)

  pub order_same : (a b : Field) → kind.lawful a ≡ true → a ≡ b → kind.order a b ≡ Equal
  order_same a b la e = sym (ap (λ f. kind.order a f) e) ∙ order_self a la

  pub same_from_order : (a b : Field) → kind.lawful a ≡ true → kind.lawful b ≡ true → kind.order a b ≡ Equal → a ≡ b
  same_from_order a b la lb e = kind.only_equal_bytes_give_0 a b la lb (ap value_of e)

  -- exchanging the two
  pub order_exchanged : (a b : Field) → kind.lawful a ≡ true → kind.lawful b ≡ true → kind.order b a ≡ ordering_reverse (kind.order a b)
  order_exchanged a b la lb = value_reversed (kind.order a b) (kind.order b a) (kind.exchange_changes_the_sign a b la lb)

  pub below_from_less : (a b : Field) → kind.order a b ≡ Less → below kind a b ≡ true
  below_from_less a b e = ap is_lt e

  pub less_from_below : (a b : Field) → below kind a b ≡ true → kind.order a b ≡ Less
  less_from_below a b e = below_is_less (kind.order a b) e

  pub below_from_greater : (a b : Field) → kind.lawful a ≡ true → kind.lawful b ≡ true → kind.order a b ≡ Greater → below kind b a ≡ true
  below_from_greater a b la lb e = ap is_lt (order_exchanged a b la lb ∙ ap ordering_reverse e)

  pub greater_from_below : (a b : Field) → kind.lawful a ≡ true → kind.lawful b ≡ true → below kind b a ≡ true → kind.order a b ≡ Greater
  greater_from_below a b la lb h = order_exchanged b a lb la ∙ ap ordering_reverse (less_from_below b a h)

  pub below_irreflexive : (a : Field) → kind.lawful a ≡ true → below kind a a ≡ false
  below_irreflexive a la = ap is_lt (order_self a la)

  pub below_asymmetric : (a b : Field) → kind.lawful a ≡ true → kind.lawful b ≡ true → below kind a b ≡ true → below kind b a ≡ false
  below_asymmetric a b la lb h = ap is_lt (order_exchanged a b la lb ∙ ap ordering_reverse (less_from_below a b h))

  pub below_transitive : (a b d : Field) → kind.lawful a ≡ true → kind.lawful b ≡ true → kind.lawful d ≡ true → below kind a b ≡ true → below kind b d ≡ true → below kind a d ≡ true
  below_transitive a b d la lb ld h g =
      ap is_lt (value_less (kind.order a d) (kind.below_is_transitive a b d la lb ld (ap value_of (less_from_below a b h)) (ap value_of (less_from_below b d g))))

  -- one of the three, by bytes
  pub trichotomy : (a b : Field) → kind.lawful a ≡ true → kind.lawful b ≡ true → (below kind a b ≡ true) ⊎ ((a ≡ b) ⊎ (below kind b a ≡ true))
  trichotomy a b la lb = go (one_of_three (kind.order a b))
    where
      go : (kind.order a b ≡ Less) ⊎ ((kind.order a b ≡ Equal) ⊎ (kind.order a b ≡ Greater)) → (below kind a b ≡ true) ⊎ ((a ≡ b) ⊎ (below kind b a ≡ true))
      go (inl e) = inl (ap is_lt e)
      go (inr (inl e)) = inr (inl (same_from_order a b la lb e))
      go (inr (inr e)) = inr (inr (below_from_greater a b la lb e))

  -- one of the three, by the comparison's answer
  pub by_order : (a b : Field) {X : Type 0} → (kind.order a b ≡ Less → X) → (kind.order a b ≡ Equal → X) → (kind.order a b ≡ Greater → X) → X
  by_order a b less equal greater = ⊎_elim less (⊎_elim equal greater) (one_of_three (kind.order a b))

  pub not_below_from_same : (a b : Field) → kind.lawful a ≡ true → a ≡ b → below kind a b ≡ false
  not_below_from_same a b la e = ap is_lt (order_same a b la e)

  -- what is not below is equal or above
  pub above_or_same : (a b : Field) → kind.lawful a ≡ true → kind.lawful b ≡ true → below kind a b ≡ false → (a ≡ b) ⊎ (below kind b a ≡ true)
  above_or_same a b la lb h =
      by_order a b
      (λ e. let wrong : true ≡ false = sym (ap is_lt e) ∙ h in absurd (true≢false wrong))
      (λ e. inl (same_from_order a b la lb e))
      (λ e. inr (below_from_greater a b la lb e))
