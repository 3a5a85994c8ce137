-- The laws of the kind, from those of its two parts.
use Rattle.std.specs.Prelude.{◌≡◌, true, ◌&&◌, length, drop, replicate, ◌==◌}
use Rattle.std.specs.declared.cmp.Ordering.TheVariants.{Equal}
use Rattle.std.proofs.Common.{sym, ap, ◌∙◌, arith, lit<}
use Rattle.std.proofs.lemmas.List.{length-drop}
use Rattle.std.proofs.lemmas.Bool.{and_parts, eqb-true}
use Rattle.numbers.specs.BigEndian.{Bytes}
use Rattle.keys.specs.Kinds.{Field, Kind}
use Rattle.keys.specs.Fields.{zeros_only, bytes_only}
use Rattle.keys.specs.FieldLaws.{zeros_are, bytes_from_test, same_by_two_numbers}
use Rattle.keys.specs.ThenBy.{by_number_is_total, parts_exchanged, parts_itself, parts_same, parts_climb}
use Rattle.keys.specs.Making.{kind_of}
use Rattle.branch_kind.specs.Vouchers.{branch_of, voucher_of, capitals, voucher_zeros, lawful_voucher, by_branch_and_voucher}

-- what a lawful field tells
pub record Told (f : Field) : Type 0 where
  pub long : length f ≡ 24
  pub bytes : Bytes f
  pub zeros : drop 8 f ≡ replicate 16 0

pub told : (f : Field) → lawful_voucher f ≡ true → Told f
unfolding voucher_zeros
told f e =
    let p = and_parts (length f == 24) (capitals f && (zeros_only (drop 8 f) && bytes_only f)) e in
    let q = and_parts (capitals f) (zeros_only (drop 8 f) && bytes_only f) p.1 in
    let r = and_parts (zeros_only (drop 8 f)) (bytes_only f) q.1 in
    let whole = eqb-true (length f) 24 p.0 in
    let left : length (drop 8 f) ≡ 16 = simp length-drop (omega arith) in
    record { long = whole; bytes = bytes_from_test f r.1; zeros = zeros_are (drop 8 f) r.0 ∙ ap (λ n. replicate n 0) left }

pub voucher_same : (a b : Field) → Told a → Told b → by_branch_and_voucher a b ≡ Equal → a ≡ b
voucher_same a b x y e =
    let both = parts_same by_number_is_total by_number_is_total branch_of voucher_of a b e in
    same_by_two_numbers a b x.long y.long x.bytes y.bytes both.0 both.1 (x.zeros ∙ sym y.zeros)

abbrev pub branch_kind : Kind
branch_kind = kind_of 66 lawful_voucher by_branch_and_voucher (record {
  is_a_byte = lit< tt;
  long = λ a la. (told a la).long;
  bytes = λ a la. (told a la).bytes;
  exchanged = λ a b la lb. parts_exchanged by_number_is_total by_number_is_total branch_of voucher_of a b;
  itself = λ a la. parts_itself by_number_is_total by_number_is_total branch_of voucher_of a;
  same = λ a b la lb. voucher_same a b (told a la) (told b lb);
  climbs = λ a b d la lb ld. parts_climb by_number_is_total by_number_is_total branch_of voucher_of a b d;
})
