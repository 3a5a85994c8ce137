-- Accounts and days as keys: four bytes account, four bytes signed day, 16 zeros, by account and then by day.
use Rattle.std.specs.Prelude.{◌≡◌, ℕ, ◌-◌, ◌^◌, ◌<◌, ◌≤◌, Bool, ◌&&◌, List, ◌++◌, length, drop, replicate, ℤ, pos, negsuc, ◌≤ℤ◌, ◌<ℤ◌, ◌==◌, nat_le}
use Rattle.std.specs.declared.cmp.Ordering.{Ordering}
use Rattle.std.specs.Int.{w32}
use Rattle.std.proofs.Common.{to_z, of_z}
use Rattle.std.specs.Ordering.{ordering_then}
use Rattle.numbers.specs.BigEndian.{Bytes, bytes_of, number_at}
use Rattle.keys.specs.Kinds.{Field}
use Rattle.keys.specs.Fields.{zeros_only, bytes_only, by_number, by_signed}

abbrev pub account_of : Field → ℕ
account_of f = number_at 4 f 0

-- the day as a signed number, two's complement; 0 is 1 January 1970
abbrev pub day_of : Field → ℤ
day_of f = to_z w32 (number_at 4 f 4)

-- a field that holds an account and a day
pub record AccountDay (f : Field) : Type 0 where
  pub has_24_bytes : length f ≡ 24
  pub holds_bytes : Bytes f
  pub account_at_least_1 : 1 ≤ account_of f
  pub then_16_zeros : drop 8 f ≡ replicate 16 0

-- the field of an account and a day
abbrev pub account_day : ℕ → ℤ → Field
account_day account day = bytes_of 4 account ++ (bytes_of 4 (of_z w32 day) ++ replicate 16 0)

-- every account and day that fits is held by its field
abbrev pub HoldsEveryAccountAndDay : Type 0
HoldsEveryAccountAndDay =
    (account : ℕ) (day : ℤ) → 1 ≤ account → account < 2 ^ 32 → negsuc (2 ^ 31 - 1) ≤ℤ day → day <ℤ pos (2 ^ 31) → AccountDay (account_day account day) × (account_of (account_day account day) ≡ account) × (day_of (account_day account day) ≡ day)

-- an account of at least 1, a day, then zeros, all of them bytes
unfoldable pub account_day_zeros : List ℕ → Bool
account_day_zeros f = nat_le 1 (account_of f) && (zeros_only (drop 8 f) && bytes_only f)

-- the test whether a field holds an account and a day
abbrev pub lawful_account_day : Field → Bool
lawful_account_day f = length f == 24 && account_day_zeros f

abbrev pub by_account_and_day : Field → Field → Ordering
by_account_and_day a b = ordering_then (by_number (account_of a) (account_of b)) (by_signed (day_of a) (day_of b))
