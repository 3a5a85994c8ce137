-- A list that holds no number twice, and only numbers below a bound, is no longer than the bound. Assumes nothing.
use Rattle.std.proofs.Common.{◌≡◌, ℕ, zero, suc, ◌+◌, ◌<◌, ◌≤◌, Bool, true, false, cond, ltb, List, [], ◌∷◌, length, refl, ap, ◌∙◌, arith, lt-ltb}
use Rattle.std.proofs.lemmas.Bool.Decides.{nat_tests}
use Rattle.book.specs.Books.{count}

-- how often the numbers below a bound stand in a list, all together
abbrev tally : ℕ → List ℕ → ℕ
tally zero list = 0
tally (suc bound) list = tally bound list + count bound list

tally_none : (bound : ℕ) → tally bound [] ≡ 0
tally_none zero = refl
tally_none (suc bound) = let ih = tally_none bound in omega arith

tally_more : (bound q : ℕ) (list : List ℕ) → tally bound (q ∷ list) ≡ cond (ltb q bound) 1 0 + tally bound list
tally_more zero q list = grind (arith, nat_tests)
tally_more (suc bound) q list = let ih = tally_more bound q list in grind (arith, nat_tests)

all_counted : (bound : ℕ) (list : List ℕ) → ((p : ℕ) → count p list ≤ cond (ltb p bound) 1 0) → length list ≤ tally bound list
all_counted bound [] once = omega (arith, tally_none bound)
all_counted bound (q ∷ list) once =
    let ih = all_counted bound list (λ p. let h = once p in omega arith) in
    let here = once q in
    let more = tally_more bound q list in
    grind (arith, nat_tests)

few_counted : (bound : ℕ) (list : List ℕ) → ((p : ℕ) → count p list ≤ 1) → tally bound list ≤ bound
few_counted zero list once = omega arith
few_counted (suc bound) list once = let ih = few_counted bound list once in let here = once bound in omega arith

pub at_most_one : (b : Bool) → cond b 1 0 ≤ 1
at_most_one true = omega arith
at_most_one false = omega arith

pub fits_below : (bound : ℕ) (list : List ℕ) → ((p : ℕ) → count p list ≤ cond (ltb p bound) 1 0) → length list ≤ bound
fits_below bound list once =
    let a = all_counted bound list once in
    let b = few_counted bound list (λ p. let h = once p in let k = at_most_one (ltb p bound) in omega arith) in
    omega arith

-- and exactly as long as the bound, where it holds each of them once
tally_within : (bound : ℕ) (list : List ℕ) → tally bound list ≤ length list
tally_within bound [] = omega (arith, tally_none bound)
tally_within bound (q ∷ list) =
    let ih = tally_within bound list in
    let more = tally_more bound q list in
    let one = at_most_one (ltb q bound) in
    omega arith

tally_full : (bound most : ℕ) (list : List ℕ) → bound ≤ most → ((p : ℕ) → count p list ≡ cond (ltb p most) 1 0) → tally bound list ≡ bound
tally_full zero most list h once = refl
tally_full (suc bound) most list h once =
    let ih = tally_full bound most list (omega arith) once in
    let here = once bound in
    let within : bound < most = omega arith in
    omega (arith, here ∙ ap (λ (b : Bool). cond b 1 0) (lt-ltb bound most within))

pub fills : (bound : ℕ) (list : List ℕ) → ((p : ℕ) → count p list ≡ cond (ltb p bound) 1 0) → length list ≡ bound
fills bound list once =
    let a = tally_within bound list in
    let b = tally_full bound bound list (omega arith) once in
    let d = fits_below bound list (λ p. let e = once p in omega arith) in
    omega arith
