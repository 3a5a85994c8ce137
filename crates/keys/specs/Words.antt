-- Narration words as keys: 1 to 24 letters, then zeros.
use Rattle.std.specs.Prelude.{◌≡◌, ℕ, suc, ◌-◌, ◌≤◌, Bool, true, cond, ◌&&◌, ◌||◌, List, [], ◌∷◌, ◌++◌, length, drop, replicate, ◌==◌, nat_le, nat_lt}
use Rattle.std.specs.List.{AllByRecursion}
use Rattle.keys.specs.Kinds.{Field}
use Rattle.keys.specs.Fields.{zeros_only}

-- a to z and 0 to 9
abbrev pub letter : ℕ → Bool
letter b = (nat_le 97 b && nat_le b 122) || (nat_le 48 b && nat_le b 57)

-- a word, then zeros up to 24 bytes
abbrev pub padded : List ℕ → Field
padded word = word ++ replicate (24 - length word) 0

-- a field that holds a word
pub record Word (f : Field) : Type 0 where
  pub word : List ℕ
  pub at_least_1 : 1 ≤ length word
  pub at_most_24 : length word ≤ 24
  pub letters : AllByRecursion (λ b. letter b ≡ true) word
  pub then_zeros : f ≡ padded word

-- how many letters stand in front
abbrev pub front : List ℕ → ℕ
front [] = 0
front (b ∷ bs) = cond (letter b) (suc (front bs)) 0

-- at least one letter, then zeros
unfoldable pub letters_then_zeros : List ℕ → Bool
letters_then_zeros f = nat_lt 0 (front f) && zeros_only (drop (front f) f)

-- the test whether a field holds a word
abbrev pub lawful_word : Field → Bool
lawful_word f = length f == 24 && letters_then_zeros f
