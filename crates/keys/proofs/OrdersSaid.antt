-- The orders of both kinds, in other words.
use Rattle.std.proofs.Common.{◌≡◌, ℕ, zero, suc, ◌<◌, true, ◌⊎◌, List, [], ◌∷◌, length, get_or, take, ℤ, ◌<ℤ◌, Ordering, Less, Equal, Greater, sym, refl, ap, ◌∙◌, inl, inr, arith}
use Rattle.std.proofs.lemmas.Int.{ints}
use Rattle.std.specs.Ordering.{is_lt, ordering_then}
use Rattle.keys.specs.Kinds.{below}
use Rattle.keys.specs.Fields.{by_number, by_signed, by_bytes}
use Rattle.keys.specs.ThenBy.{by_cases, number_less, number_equal}
use Rattle.keys.specs.WordLaws.{lawful_from_word, word_has_24}
use Rattle.keys.specs.AccountDays.{account_of, day_of}
use Rattle.keys.specs.BuiltIn.{word_kind, account_day_kind}
use Rattle.keys.specs.AsSaid.{WordsByFirstDifference, AccountsThenDays}
use Rattle.keys.proofs.Orders.{less_from_below}

-- the first part decides, or leaves it to the second
first_equal : (o p : Ordering) → o ≡ Equal → ordering_then o p ≡ Less → p ≡ Less
first_equal o p e h = sym (ap (λ t. ordering_then t p) e) ∙ h

record At (a b : List ℕ) : Type 0 where
  place : ℕ
  within : place < length a
  same_before : take place a ≡ take place b
  less_there : get_or a place 0 < get_or b place 0

differ : (a b : List ℕ) → length a ≡ length b → by_bytes a b ≡ Less → At a b
differ [] [] long e = absurd (let z : ◌≡◌ {A = ℕ} 0 1 = cc in omega arith)
differ [] (y ∷ ys) long e = absurd (omega arith)
differ (x ∷ xs) [] long e = absurd (omega arith)
differ (x ∷ xs) (y ∷ ys) long e =
    by_cases x y
    (λ h f. record { place = 0; within = omega arith; same_before = refl; less_there = h })
    (λ h f. later h (differ xs ys (omega arith) (first_equal (by_number x y) (by_bytes xs ys) f e)))
    (λ h f. let less = sym (ap (λ o. ordering_then o (by_bytes xs ys)) f) ∙ e in absurd (let z : ◌≡◌ {A = ℕ} 0 1 = cc in omega arith))
  where
    later : x ≡ y → At xs ys → At (x ∷ xs) (y ∷ ys)
    later h at = record { place = suc at.place; within = omega (arith, at.within); same_before = λ i. h i ∷ at.same_before i; less_there = at.less_there }

decides : (k : ℕ) (a b : List ℕ) → k < length a → length a ≡ length b → take k a ≡ take k b → get_or a k 0 < get_or b k 0 → by_bytes a b ≡ Less
decides k [] b h long e less = absurd (omega arith)
decides k (x ∷ xs) [] h long e less = absurd (omega arith)
decides zero (x ∷ xs) (y ∷ ys) h long e less = ap (λ o. ordering_then o (by_bytes xs ys)) (number_less x y less)
decides (suc k) (x ∷ xs) (y ∷ ys) h long e less =
    let head : x ≡ y = cc in
    let tail : take k xs ≡ take k ys = cc in
    ap (λ o. ordering_then o (by_bytes xs ys)) (number_equal x y head) ∙ decides k xs ys (omega arith) (omega arith) tail less

pub words_by_first_difference : WordsByFirstDifference
words_by_first_difference a b wa wb =
    let long_a = word_has_24 a (lawful_from_word a wa) in
    let long_b = word_has_24 b (lawful_from_word b wb) in (
      λ h. let at = differ a b (long_a ∙ sym long_b) (less_from_below word_kind a b h) in record { place = at.place; within = omega (arith, at.within); same_before = at.same_before; less_there = at.less_there },
      λ d. ap is_lt (decides d.place a b (omega (arith, d.within)) (long_a ∙ sym long_b) d.same_before d.less_there),
    )

signed_less : (a b : ℤ) → by_signed a b ≡ Less → a <ℤ b
signed_less a b e = grind (arith, ints)

less_signed : (a b : ℤ) → a <ℤ b → by_signed a b ≡ Less
less_signed a b h = grind (arith, ints)

pub accounts_then_days : AccountsThenDays
accounts_then_days a b xa xb = (λ h. by_cases (account_of a) (account_of b) (λ l f. inl l) (λ e f. inr (e, signed_less (day_of a) (day_of b) (first_equal (by_number (account_of a) (account_of b)) (by_signed (day_of a) (day_of b)) f (less_from_below account_day_kind a b h)))) (greater h), back)
  where
    greater : below account_day_kind a b ≡ true → account_of b < account_of a → by_number (account_of a) (account_of b) ≡ Greater → (account_of a < account_of b) ⊎ ((account_of a ≡ account_of b) × (day_of a <ℤ day_of b))
    greater h l f = let less = sym (ap (λ o. ordering_then o (by_signed (day_of a) (day_of b))) f) ∙ less_from_below account_day_kind a b h in absurd (let z : ◌≡◌ {A = ℕ} 0 1 = cc in omega arith)

    back : (account_of a < account_of b) ⊎ ((account_of a ≡ account_of b) × (day_of a <ℤ day_of b)) → below account_day_kind a b ≡ true
    back (inl l) = ap (λ o. is_lt (ordering_then o (by_signed (day_of a) (day_of b)))) (number_less (account_of a) (account_of b) l)
    back (inr (e, l)) = ap (λ o. is_lt (ordering_then o (by_signed (day_of a) (day_of b)))) (number_equal (account_of a) (account_of b) e) ∙ ap is_lt (less_signed (day_of a) (day_of b) l)
