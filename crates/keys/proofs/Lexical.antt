-- What comparing two slices answers is their order byte by byte.
use Rattle.std.proofs.Common.{◌≡◌, ℕ, List, [], ◌∷◌, refl, ap, ◌∙◌, arith}
use Rattle.std.proofs.lemmas.Bool.Decides.{nat_tests}
use Rattle.std.specs.Cmp.Lexicographic.{slice_cmp}
use Rattle.std.specs.Ordering.{nat_cmp, ordering_then}
use Rattle.keys.specs.Fields.{by_number, by_bytes}

numbers_say : (x y : ℕ) → nat_cmp x y ≡ by_number x y
numbers_say x y = grind (arith, nat_tests)

pub bytes_say : (a b : List ℕ) → slice_cmp nat_cmp a b ≡ by_bytes a b
bytes_say [] [] = refl
bytes_say [] (y ∷ ys) = refl
bytes_say (x ∷ xs) [] = refl
bytes_say (x ∷ xs) (y ∷ ys) = ap (λ o. ordering_then o (slice_cmp nat_cmp xs ys)) (numbers_say x y) ∙ ap (ordering_then (by_number x y)) (bytes_say xs ys)
