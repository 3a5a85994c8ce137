-- The first places of an array after a change. Assumes nothing.
use Rattle.std.proofs.Common.{◌≡◌, ℕ, ◌+◌, ◌-◌, ◌<◌, ◌≤◌, List, length, take, set, arith, rules}
use Rattle.std.specs.List.{insert, remove, copy_within}
use Rattle.std.proofs.lemmas.List.{same_lists, places, get_or-set_same}
use Rattle.std.proofs.lemmas.Bool.{cases_eq, cases_lt}

module _ {X : Type 0} (xs : List X) (len i : ℕ) where
  pub put_in_front : (x : X) → i ≤ len → len < length xs → set (take (len + 1) (copy_within xs i len (i + 1))) i x ≡ insert (take len xs) i x
  put_in_front x within room =
      same_lists _ _ (search (rules, places)) (λ k d h. grind (arith, places, get_or-set_same, cases_eq k i, cases_lt k i))

  pub taken_out : i < len → len ≤ length xs → take (len - 1) (copy_within xs (i + 1) len i) ≡ remove (take len xs) i
  taken_out within room =
      same_lists _ _ (search (rules, places)) (λ k d h. grind (arith, places, cases_lt k i))
