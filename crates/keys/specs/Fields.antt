-- Tests and comparisons that kinds are made of.
use Rattle.std.specs.Prelude.{ℕ, Bool, true, cond, ◌&&◌, List, [], ◌∷◌, ℤ, ◌==◌, int_lt, nat_lt}
use Rattle.std.specs.declared.cmp.Ordering.TheVariants.{Less, Equal, Greater}
use Rattle.std.specs.declared.cmp.Ordering.{Ordering}
use Rattle.std.specs.Ordering.{ordering_then}

abbrev pub zeros_only : List ℕ → Bool
zeros_only [] = true
zeros_only (b ∷ bs) = b == 0 && zeros_only bs

abbrev pub bytes_only : List ℕ → Bool
bytes_only [] = true
bytes_only (b ∷ bs) = nat_lt b 256 && bytes_only bs

abbrev pub by_number : ℕ → ℕ → Ordering
by_number a b = cond (nat_lt a b) Less (cond (nat_lt b a) Greater Equal)

abbrev pub by_signed : ℤ → ℤ → Ordering
by_signed a b = cond (int_lt a b) Less (cond (int_lt b a) Greater Equal)

-- byte by byte, the first difference decides
abbrev pub by_bytes : List ℕ → List ℕ → Ordering
by_bytes [] [] = Equal
by_bytes [] (y ∷ ys) = Less
by_bytes (x ∷ xs) [] = Greater
by_bytes (x ∷ xs) (y ∷ ys) = ordering_then (by_number x y) (by_bytes xs ys)
