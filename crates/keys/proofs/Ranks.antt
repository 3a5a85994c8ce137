-- Below is less in rank: what lies below a lower field lies below a higher one, and the lower field itself does so too.
use Rattle.std.proofs.Common.{◌≡◌, ℕ, zero, suc, ◌<◌, ◌≤◌, Bool, true, false, cond, ◌&&◌, ltb, ◌⊎◌, List, [], ◌∷◌, ◌++◌, map, length, sym, ap, ◌∙◌, subst, inl, inr, ⊎_elim, arith}
use Rattle.std.specs.Ordering.{is_lt}
use Rattle.std.specs.List.{flat_map, AllByRecursion}
use Rattle.std.proofs.lemmas.Bool.{cases_eq, cases_Bool, and_parts, and_from, and_right, lt-ltb, le-ltb}
use Rattle.keys.specs.Kinds.{Field, Kind, below}
use Rattle.keys.specs.Ranks.{numbers_below, all_fields, counted, rank, RanksTell}
use Rattle.keys.specs.Fields.{by_number}
use Rattle.keys.specs.ThenBy.{number_less, number_equal, number_greater}
use Rattle.keys.proofs.Orders.{below_irreflexive, below_transitive, trichotomy, by_order, same_from_order, below_from_greater}

-- a stands in the list
data In {A : Type 0} (a : A) : List A → Type 0 where
  here : {l : List A} → In a (a ∷ l)
  there : {b : A} {l : List A} → In a l → In a (b ∷ l)

in_left : {A : Type 0} {a : A} {l : List A} (m : List A) → In a l → In a (l ++ m)
in_left m here = here
in_left m (there i) = there (in_left m i)

in_right : {A : Type 0} {a : A} (l : List A) {m : List A} → In a m → In a (l ++ m)
in_right [] i = i
in_right (x ∷ l) i = there (in_right l i)

in_map : {A B : Type 0} (f : A → B) {a : A} {l : List A} → In a l → In (f a) (map f l)
in_map f here = here
in_map f (there i) = there (in_map f i)

in_joined : {A B : Type 0} (f : A → List B) {a : A} {b : B} {l : List A} → In a l → In b (f a) → In b (flat_map f l)
in_joined f {a} {b} (here {l = l}) j = in_left (flat_map f l) j
in_joined f (there {b = c} i) j = in_right (f c) (in_joined f i j)

in_numbers : (b n : ℕ) → b < n → In b (numbers_below n)
in_numbers b zero h = absurd (omega arith)
in_numbers b (suc n) h = go (in_numbers b n) (cases_eq b n)
  where
    go : (b < n → In b (numbers_below n)) → (b ≡ n) ⊎ (b ≡ n → ⊥) → In b (n ∷ numbers_below n)
    go ih (inl e) = subst (λ c. In b (c ∷ numbers_below n)) e here
    go ih (inr e) = there (ih (omega arith))

in_fields : (bound width : ℕ) (f : Field) → length f ≡ width → AllByRecursion (λ b. b < bound) f → In f (all_fields bound width)
unfolding all_fields
in_fields bound zero [] e all = here
in_fields bound zero (b ∷ f) e all = absurd (omega arith)
in_fields bound (suc width) [] e all = absurd (omega arith)
in_fields bound (suc width) (b ∷ f) e all =
    in_joined (λ b. map (λ f. b ∷ f) (all_fields bound width)) (in_numbers b bound all.0) (in_map (λ f. b ∷ f) (in_fields bound width f (omega arith) all.1))

-- a test that passes where another does counts no less, and more where it passes once besides
module _ (p q : Field → Bool) (wider : (f : Field) → p f ≡ true → q f ≡ true) where
  each : (f : Field) → cond (p f) 1 0 ≤ cond (q f) 1 0
  each f = go (cases_Bool (p f))
    where
      go : (p f ≡ true) ⊎ (p f ≡ false) → cond (p f) 1 0 ≤ cond (q f) 1 0
      go (inl e) = rw (e, wider f e) (omega arith)
      go (inr e) = rw e (omega arith)

  counted_le : (l : List Field) → counted p l ≤ counted q l
  counted_le [] = omega arith
  counted_le (f ∷ fs) = omega (arith, each f, counted_le fs)

  counted_lt : (f : Field) {l : List Field} → In f l → p f ≡ false → q f ≡ true → counted p l < counted q l
  counted_lt f (here {l = l}) none one = rw (none, one) (omega (arith, counted_le l))
  counted_lt f (there {b = g} {l = l} i) none one = omega (arith, each g, counted_lt f i none one)

module _ (kind : Kind) where
  pub rank_below : (a b : Field) → kind.lawful a ≡ true → kind.lawful b ≡ true → below kind a b ≡ true → rank kind a < rank kind b
  unfolding rank
  rank_below a b la lb h =
      counted_lt (λ g. kind.lawful g && below kind g a) (λ g. kind.lawful g && below kind g b)
      (λ g t. let both = and_parts (kind.lawful g) (below kind g a) t in and_from (kind.lawful g) (below kind g b) both.0 (below_transitive kind g a b both.0 la lb both.1 h))
      a (in_fields 256 24 a (kind.fields_have_24_bytes a la) (kind.fields_hold_bytes a la)) (and_right (kind.lawful a) (below kind a a) (below_irreflexive kind a la)) (and_from (kind.lawful a) (below kind a b) la h)

  pub below_rank : (a b : Field) → kind.lawful a ≡ true → kind.lawful b ≡ true → rank kind a < rank kind b → below kind a b ≡ true
  below_rank a b la lb h =
      ⊎_elim (λ e. e) (⊎_elim (λ e. absurd (omega (arith, ap (rank kind) e))) (λ e. absurd (omega (arith, rank_below b a lb la e)))) (trichotomy kind a b la lb)

  pub same_rank : (a b : Field) → kind.lawful a ≡ true → kind.lawful b ≡ true → rank kind a ≡ rank kind b → a ≡ b
  same_rank a b la lb h =
      ⊎_elim (λ e. absurd (omega (arith, rank_below a b la lb e))) (⊎_elim (λ e. e) (λ e. absurd (omega (arith, rank_below b a lb la e)))) (trichotomy kind a b la lb)

  -- the comparison is that of the ranks
  pub order_is_of_ranks : (a b : Field) → kind.lawful a ≡ true → kind.lawful b ≡ true → kind.order a b ≡ by_number (rank kind a) (rank kind b)
  order_is_of_ranks a b la lb =
      by_order kind a b
      (λ e. e ∙ sym (number_less (rank kind a) (rank kind b) (rank_below a b la lb (ap is_lt e))))
      (λ e. e ∙ sym (number_equal (rank kind a) (rank kind b) (ap (rank kind) (same_from_order kind a b la lb e))))
      (λ e. e ∙ sym (number_greater (rank kind a) (rank kind b) (rank_below b a lb la (below_from_greater kind a b la lb e))))

  pub below_is_of_ranks : (a b : Field) → kind.lawful a ≡ true → kind.lawful b ≡ true → below kind a b ≡ ltb (rank kind a) (rank kind b)
  below_is_of_ranks a b la lb =
      by_order kind a b
      (λ e. ap is_lt e ∙ sym (lt-ltb (rank kind a) (rank kind b) (rank_below a b la lb (ap is_lt e))))
      (λ e. ap is_lt e ∙ sym (le-ltb (rank kind a) (rank kind b) (omega (arith, ap (rank kind) (same_from_order kind a b la lb e)))))
      (λ e. ap is_lt e ∙ sym (le-ltb (rank kind a) (rank kind b) (omega (arith, rank_below b a lb la (below_from_greater kind a b la lb e)))))

  pub ranks_tell : RanksTell kind
  ranks_tell = record { less_from_below = rank_below; below_from_less = below_rank; one_rank = λ a b e. ap (rank kind) e; one_field = same_rank }
