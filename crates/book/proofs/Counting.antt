-- How often a number stands in a list, after postings and cancellations.
use Rattle.std.proofs.Common.{◌≡◌, ℕ, suc, ◌+◌, ◌≤◌, Bool, true, false, cond, eqb, leb, ◌⊎◌, List, [], ◌∷◌, ◌++◌, length, refl, ap, inl, inr, arith}
use Rattle.std.proofs.lemmas.Bool.{eq-eqb, ne_eqb, cases_eq, cond-true, cond-false, le-leb, lt-leb, leb-true, leb-false}
use Rattle.std.proofs.lemmas.Bool.Decides.{nat_tests}
use Rattle.std.specs.List.{AllByRecursion}
use Rattle.book.specs.Books.{count, has, without}

-- 1 for the number itself, 0 for another
abbrev pub one : ℕ → ℕ → ℕ
one n m = cond (eqb n m) 1 0

pub one_same : (n m : ℕ) → n ≡ m → one n m ≡ 1
one_same n m e = cond-true (eqb n m) 1 0 (eq-eqb n m e)

pub one_other : (n m : ℕ) → (n ≡ m → ⊥) → one n m ≡ 0
one_other n m e = cond-false (eqb n m) 1 0 (ne_eqb n m e)

pub one_le : (n m : ℕ) → one n m ≤ 1
one_le n m = grind (arith, nat_tests)

pub has_yes : (n : ℕ) (ps : List ℕ) → has n ps ≡ true → 1 ≤ count n ps
has_yes n ps e = leb-true 1 (count n ps) e

pub has_not : (n : ℕ) (ps : List ℕ) → has n ps ≡ false → count n ps ≡ 0
has_not n ps e = omega (arith, leb-false 1 (count n ps) e)

pub has_counted : (n : ℕ) (ps : List ℕ) → 1 ≤ count n ps → has n ps ≡ true
has_counted n ps h = le-leb 1 (count n ps) h

pub lacks_counted : (n : ℕ) (ps : List ℕ) → count n ps ≡ 0 → has n ps ≡ false
lacks_counted n ps h = lt-leb 1 (count n ps) (omega arith)

pub has_same : (n : ℕ) (ps qs : List ℕ) → count n ps ≡ count n qs → has n ps ≡ has n qs
has_same n ps qs e = ap (λ c. leb 1 c) e

pub count-++ : (n : ℕ) (xs ys : List ℕ) → count n (xs ++ ys) ≡ count n xs + count n ys
count-++ n [] ys = omega arith
count-++ n (x ∷ xs) ys = omega (arith, count-++ n xs ys)

pub count_without : (n m : ℕ) (ps : List ℕ) → 1 ≤ count m ps → count n (without m ps) + one n m ≡ count n ps
count_without n m [] h = absurd (omega arith)
count_without n m (p ∷ ps) h = go (cases_eq m p) (λ k. count_without n m ps k)
  where
    go : (m ≡ p) ⊎ (m ≡ p → ⊥) → (1 ≤ count m ps → count n (without m ps) + one n m ≡ count n ps) → count n (without m (p ∷ ps)) + one n m ≡ count n (p ∷ ps)
    go (inl e) ih = rw (eq-eqb m p e, e) (omega arith)
    go (inr e) ih = rw (ne_eqb m p e) (omega (arith, ih (omega (arith, one_other m p e))))

pub without_absent : (n : ℕ) (ps : List ℕ) → count n ps ≡ 0 → without n ps ≡ ps
without_absent n [] h = refl
without_absent n (p ∷ ps) h = go (cases_eq n p) (λ k. without_absent n ps k)
  where
    go : (n ≡ p) ⊎ (n ≡ p → ⊥) → (count n ps ≡ 0 → without n ps ≡ ps) → without n (p ∷ ps) ≡ p ∷ ps
    go (inl e) ih = absurd (omega (arith, one_same n p e))
    go (inr e) ih = rw (ne_eqb n p e) (ap (λ (rest : List ℕ). p ∷ rest) (ih (omega (arith, one_other n p e))))

pub without_front : (n : ℕ) (ps qs : List ℕ) → 1 ≤ count n ps → without n (ps ++ qs) ≡ without n ps ++ qs
without_front n [] qs h = absurd (omega arith)
without_front n (p ∷ ps) qs h = go (cases_eq n p) (λ k. without_front n ps qs k)
  where
    go : (n ≡ p) ⊎ (n ≡ p → ⊥) → (1 ≤ count n ps → without n (ps ++ qs) ≡ without n ps ++ qs) → without n ((p ∷ ps) ++ qs) ≡ without n (p ∷ ps) ++ qs
    go (inl e) ih = rw (eq-eqb n p e)
    go (inr e) ih = rw (ne_eqb n p e) (ap (λ (rest : List ℕ). p ∷ rest) (ih (omega (arith, one_other n p e))))

pub without_back : (n : ℕ) (ps qs : List ℕ) → count n ps ≡ 0 → without n (ps ++ qs) ≡ ps ++ without n qs
without_back n [] qs h = refl
without_back n (p ∷ ps) qs h = go (cases_eq n p) (λ k. without_back n ps qs k)
  where
    go : (n ≡ p) ⊎ (n ≡ p → ⊥) → (count n ps ≡ 0 → without n (ps ++ qs) ≡ ps ++ without n qs) → without n ((p ∷ ps) ++ qs) ≡ (p ∷ ps) ++ without n qs
    go (inl e) ih = absurd (omega (arith, one_same n p e))
    go (inr e) ih = rw (ne_eqb n p e) (ap (λ (rest : List ℕ). p ∷ rest) (ih (omega (arith, one_other n p e))))

pub all_without : (P : ℕ → Type 0) (n : ℕ) (ps : List ℕ) → AllByRecursion P ps → AllByRecursion P (without n ps)
all_without P n [] a = tt
all_without P n (p ∷ ps) a = go (eqb n p) (all_without P n ps a.1)
  where
    go : (b : Bool) → AllByRecursion P (without n ps) → AllByRecursion P (cond b ps (p ∷ without n ps))
    go true ih = a.1
    go false ih = (a.0, ih)

pub length_without : (n : ℕ) (ps : List ℕ) → 1 ≤ count n ps → suc (length (without n ps)) ≡ length ps
length_without n [] h = absurd (omega arith)
length_without n (p ∷ ps) h = go (cases_eq n p) (λ k. length_without n ps k)
  where
    go : (n ≡ p) ⊎ (n ≡ p → ⊥) → (1 ≤ count n ps → suc (length (without n ps)) ≡ length ps) → suc (length (without n (p ∷ ps))) ≡ length (p ∷ ps)
    go (inl e) ih = rw (eq-eqb n p e)
    go (inr e) ih = rw (ne_eqb n p e) (ap suc (ih (omega (arith, one_other n p e))))

pub length_without_le : (n : ℕ) (ps : List ℕ) → length (without n ps) ≤ length ps
length_without_le n [] = omega arith
length_without_le n (p ∷ ps) = go (eqb n p) (length_without_le n ps)
  where
    go : (b : Bool) → length (without n ps) ≤ length ps → length (cond b ps (p ∷ without n ps)) ≤ length (p ∷ ps)
    go true ih = omega arith
    go false ih = omega arith
