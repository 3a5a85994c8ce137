-- A kind has finitely many lawful fields, so its order is the order of numbers.
use Rattle.std.specs.Prelude.{◌≡◌, ℕ, zero, suc, ◌+◌, ◌<◌, Bool, true, cond, ◌&&◌, List, [], ◌∷◌, map}
use Rattle.std.specs.List.{flat_map}
use Rattle.keys.specs.Kinds.{Field, Kind, below}

-- the numbers below n
abbrev pub numbers_below : ℕ → List ℕ
numbers_below zero = []
numbers_below (suc n) = n ∷ numbers_below n

-- every list of so many numbers, each below a bound. Never computed
unfoldable pub all_fields : (bound width : ℕ) → List Field
all_fields bound zero = [] ∷ []
all_fields bound (suc width) = flat_map (λ b. map (λ f. b ∷ f) (all_fields bound width)) (numbers_below bound)

-- how many pass a test
abbrev pub counted : (Field → Bool) → List Field → ℕ
counted test [] = 0
counted test (f ∷ fs) = cond (test f) 1 0 + counted test fs

-- how many lawful fields lie below a field
unfoldable pub rank : Kind → Field → ℕ
rank kind f = counted (λ g. kind.lawful g && below kind g f) (all_fields 256 24)

-- among lawful fields, below is less in rank, and one rank is one field
pub record RanksTell (kind : Kind) : Type 0 where
  pub less_from_below : (a b : Field) → kind.lawful a ≡ true → kind.lawful b ≡ true → below kind a b ≡ true → rank kind a < rank kind b
  pub below_from_less : (a b : Field) → kind.lawful a ≡ true → kind.lawful b ≡ true → rank kind a < rank kind b → below kind a b ≡ true
  pub one_rank : (a b : Field) → a ≡ b → rank kind a ≡ rank kind b
  pub one_field : (a b : Field) → kind.lawful a ≡ true → kind.lawful b ≡ true → rank kind a ≡ rank kind b → a ≡ b
