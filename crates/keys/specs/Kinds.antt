-- What a key kind is: a code, the lawful fields, how two of them compare, and the laws that it owes.
use Rattle.std.specs.Prelude.{◌≡◌, ℕ, ◌<◌, Bool, true, List, length, ℤ, pos, negsuc, neg_ℤ}
use Rattle.std.specs.declared.cmp.Ordering.TheVariants.{Less, Equal, Greater}
use Rattle.std.specs.declared.cmp.Ordering.{Ordering}
use Rattle.std.specs.Ordering.{is_lt}
use Rattle.numbers.specs.BigEndian.{Bytes}

-- a key field, byte by byte
abbrev pub Field : Type 0
Field = List ℕ

-- the value of each answer of a comparison
abbrev pub value_of : Ordering → ℤ
value_of Less = negsuc 0
value_of Equal = pos 0
value_of Greater = pos 1

-- a kind: lawfulness and order are functions of the bytes alone, and the laws hold of lawful fields
pub record Kind : Type 0 where
  pub code : ℕ
  pub lawful : Field → Bool
  pub order : Field → Field → Ordering
  pub code_is_a_byte : code < 256
  pub fields_have_24_bytes : (a : Field) → lawful a ≡ true → length a ≡ 24
  pub fields_hold_bytes : (a : Field) → lawful a ≡ true → Bytes a
  pub exchange_changes_the_sign : (a b : Field) → lawful a ≡ true → lawful b ≡ true → value_of (order b a) ≡ neg_ℤ (value_of (order a b))
  pub equal_bytes_give_0 : (a : Field) → lawful a ≡ true → value_of (order a a) ≡ pos 0
  pub only_equal_bytes_give_0 : (a b : Field) → lawful a ≡ true → lawful b ≡ true → value_of (order a b) ≡ pos 0 → a ≡ b
  pub below_is_transitive : (a b d : Field) → lawful a ≡ true → lawful b ≡ true → lawful d ≡ true → value_of (order a b) ≡ negsuc 0 → value_of (order b d) ≡ negsuc 0 → value_of (order a d) ≡ negsuc 0

-- whether a field lies below another
abbrev pub below : Kind → Field → Field → Bool
below kind a b = is_lt (kind.order a b)
