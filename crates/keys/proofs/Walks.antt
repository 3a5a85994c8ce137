-- What looking at the bytes of a field in turn tells.
use Rattle.std.proofs.Common.{◌≡◌, ℕ, suc, ◌+◌, ◌≤◌, Bool, true, false, cond, not, ltb, List, Some, None, refl, arith}
use Rattle.std.specs.List.{position_or_len}
use Rattle.std.specs.Option.{unwrap_or}
use Rattle.std.proofs.lemmas.Bool.Decides.{nat_tests}
use Rattle.std.proofs.lemmas.List.Recursion.{is_position_or_len}
use Rattle.keys.specs.Words.{letter, front}

-- the letters in front end at the first byte that is none
pub front_is_position : (xs : List ℕ) → front xs ≡ position_or_len (λ b. not (letter b)) xs
front_is_position xs = is_position_or_len front (λ b. not (letter b)) refl (λ b bs. step (letter b) (front bs)) xs
  where
    step : (t : Bool) (n : ℕ) → cond t (suc n) 0 ≡ cond (not t) 0 (1 + n)
    step true n = omega arith
    step false n = refl

-- a place found, or the end
pub place_or_end : (n m : ℕ) → n ≤ m → unwrap_or (cond (ltb n m) (Some n) None) m ≡ n
place_or_end n m h = grind (arith, nat_tests)
