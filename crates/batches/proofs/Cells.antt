-- The nine bytes of a line. Assumes nothing.
use Rattle.std.proofs.Common.{◌≡◌, ℕ, ◌-◌, List, length, take, drop, ap, ◌∙◌, arith}
use Rattle.std.proofs.lemmas.List.{take_rest}
use Rattle.numbers.specs.BigEndian.{number_at}
use Rattle.numbers.proofs.Spelling.{number_drop}

-- the number behind the sign byte
pub number_there : (piece : List ℕ) (n : ℕ) → length piece ≡ 9 → n ≡ number_at 8 (take (length piece - 1) (drop 1 piece)) 0 → n ≡ number_at 8 piece 1
number_there piece n long is = is ∙ ap (λ (xs : List ℕ). number_at 8 xs 0) (take_rest piece 1) ∙ number_drop 8 1 0 piece (omega arith)
