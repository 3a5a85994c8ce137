-- The test for an account and a day finds exactly these, and two that agree in both are equal.
use Rattle.std.specs.Prelude.{◌≡◌, true, ◌&&◌, length, drop, replicate, ◌==◌, nat_le}
use Rattle.std.specs.declared.cmp.Ordering.TheVariants.{Equal}
use Rattle.std.proofs.Common.{sym, ap, ◌∙◌, arith}
use Rattle.std.specs.Int.{w32}
use Rattle.std.proofs.Math.Facts.{to_z_inj}
use Rattle.std.proofs.lemmas.List.{length-drop}
use Rattle.std.proofs.lemmas.Bool.{and_parts, and_from, eqb-true, leb-true, eq-eqb, le-leb}
use Rattle.numbers.specs.BigEndian.{number_at}
use Rattle.keys.specs.Kinds.{Field}
use Rattle.keys.specs.Fields.{zeros_only, bytes_only}
use Rattle.keys.specs.FieldLaws.{zeros_are, zeros_only_replicate, bytes_from_test, test_from_bytes, number_fits, same_by_two_numbers}
use Rattle.keys.specs.AccountDays.{account_of, day_of, AccountDay, account_day_zeros, lawful_account_day, by_account_and_day}
use Rattle.keys.specs.ThenBy.{by_number_is_total, by_signed_is_total, parts_same}

pub account_day_from_lawful : (f : Field) → lawful_account_day f ≡ true → AccountDay f
unfolding account_day_zeros
account_day_from_lawful f e =
    let p = and_parts (length f == 24) (nat_le 1 (account_of f) && (zeros_only (drop 8 f) && bytes_only f)) e in
    let q = and_parts (nat_le 1 (account_of f)) (zeros_only (drop 8 f) && bytes_only f) p.1 in
    let r = and_parts (zeros_only (drop 8 f)) (bytes_only f) q.1 in
    let long = eqb-true (length f) 24 p.0 in
    let left : length (drop 8 f) ≡ 16 = simp length-drop (omega arith) in
    record {
      has_24_bytes = long;
      holds_bytes = bytes_from_test f r.1;
      account_at_least_1 = leb-true 1 (account_of f) q.0;
      then_16_zeros = zeros_are (drop 8 f) r.0 ∙ ap (λ n. replicate n 0) left;
    }

pub lawful_from_account_day : (f : Field) → AccountDay f → lawful_account_day f ≡ true
unfolding account_day_zeros
lawful_from_account_day f a =
    and_from (length f == 24) (nat_le 1 (account_of f) && (zeros_only (drop 8 f) && bytes_only f)) (eq-eqb (length f) 24 a.has_24_bytes)
    (and_from (nat_le 1 (account_of f)) (zeros_only (drop 8 f) && bytes_only f) (le-leb 1 (account_of f) a.account_at_least_1)
    (and_from (zeros_only (drop 8 f)) (bytes_only f) (ap zeros_only a.then_16_zeros ∙ zeros_only_replicate 16) (test_from_bytes f a.holds_bytes)))

pub account_day_same : (a b : Field) → AccountDay a → AccountDay b → by_account_and_day a b ≡ Equal → a ≡ b
account_day_same a b x y e =
    let both = parts_same by_number_is_total by_signed_is_total account_of day_of a b e in
    let long_a = x.has_24_bytes in
    let long_b = y.has_24_bytes in
    let day : number_at 4 a 4 ≡ number_at 4 b 4 = to_z_inj {w = w32} (record { fits = number_fits a 4 (omega arith) x.holds_bytes }) (record { fits = number_fits b 4 (omega arith) y.holds_bytes }) both.1 in
    same_by_two_numbers a b long_a long_b x.holds_bytes y.holds_bytes both.0 day (x.then_16_zeros ∙ sym y.then_16_zeros)
