-- Every account and day that fits has its field, and is read from it again.
use Rattle.std.proofs.Common.{◌≡◌, ℕ, ◌-◌, ◌^◌, ◌<◌, ◌≤◌, [], ◌++◌, length, drop, replicate, ℤ, pos, negsuc, ◌≤ℤ◌, ◌<ℤ◌, sym, refl, ap, ◌∙◌, arith, length-append, w32, SFits, to_z, of_z}
use Rattle.std.proofs.ByRecursion.{All-append}
use Rattle.std.proofs.lemmas.List.{append_assoc, drop_at}
use Rattle.std.proofs.lemmas.Int.{ints, to_z-of_z}
use Rattle.numbers.specs.BigEndian.{bytes_of}
use Rattle.numbers.proofs.Spelling.{length_bytes_of, bytes_bytes_of, number_bytes_of, number_between}
use Rattle.keys.specs.FieldLaws.{zeros_bytes}
use Rattle.keys.specs.AccountDays.{account_of, day_of, account_day, AccountDay, HoldsEveryAccountAndDay}

day_fits : (day : ℤ) → negsuc (2 ^ 31 - 1) ≤ℤ day → day <ℤ pos (2 ^ 31) → SFits w32 day
day_fits (pos n) low high = record { sfits = omega (arith, ints) }
day_fits (negsuc n) low high = record { sfits = omega (arith, ints) }

day_bits : (day : ℤ) → negsuc (2 ^ 31 - 1) ≤ℤ day → day <ℤ pos (2 ^ 31) → of_z w32 day < 2 ^ 32
day_bits (pos n) low high = omega (arith, ints)
day_bits (negsuc n) low high = omega (arith, ints)

module _ (account : ℕ) (day : ℤ) (some : 1 ≤ account) (fits : account < 2 ^ 32) (low : negsuc (2 ^ 31 - 1) ≤ℤ day) (high : day <ℤ pos (2 ^ 31)) where
  account_is : account_of (account_day account day) ≡ account
  account_is = number_between 4 0 [] (bytes_of 4 account) (bytes_of 4 (of_z w32 day) ++ replicate 16 0) refl (length_bytes_of 4 account) ∙ number_bytes_of 4 account fits

  day_is : day_of (account_day account day) ≡ day
  day_is =
      ap (to_z w32) (number_between 4 4 (bytes_of 4 account) (bytes_of 4 (of_z w32 day)) (replicate 16 0) (length_bytes_of 4 account) (length_bytes_of 4 (of_z w32 day)) ∙ number_bytes_of 4 (of_z w32 day) (day_bits day low high)) ∙ to_z-of_z w32 day (day_fits day low high)

  held : AccountDay (account_day account day)
  held =
      let one = length_bytes_of 4 account in
      let two = length_bytes_of 4 (of_z w32 day) in
      let eight : length (bytes_of 4 account ++ bytes_of 4 (of_z w32 day)) ≡ 8 = length-append (bytes_of 4 account) (bytes_of 4 (of_z w32 day)) ∙ omega arith in
      let long : length (account_day account day) ≡ 24 = simp length-append (omega arith) in
      record {
        has_24_bytes = long;
        holds_bytes = All-append (λ b. b < 256) (bytes_of 4 account) (bytes_of 4 (of_z w32 day) ++ replicate 16 0) (bytes_bytes_of 4 account) (All-append (λ b. b < 256) (bytes_of 4 (of_z w32 day)) (replicate 16 0) (bytes_bytes_of 4 (of_z w32 day)) (zeros_bytes 16));
        account_at_least_1 = omega (arith, account_is);
        then_16_zeros = ap (drop 8) (sym (append_assoc (bytes_of 4 account) (bytes_of 4 (of_z w32 day)) (replicate 16 0))) ∙ drop_at (bytes_of 4 account ++ bytes_of 4 (of_z w32 day)) (replicate 16 0) 8 eight;
      }

pub every_account_and_day : HoldsEveryAccountAndDay
every_account_and_day account day some fits low high =
    (held account day some fits low high, account_is account day some fits low high, day_is account day some fits low high)
