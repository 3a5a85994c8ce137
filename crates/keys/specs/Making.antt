-- A kind made from laws on the answers of its comparison.
use Rattle.std.specs.Prelude.{◌≡◌, ℕ, ◌<◌, Bool, true, length, pos, negsuc, neg_ℤ, refl}
use Rattle.std.specs.declared.cmp.Ordering.TheVariants.{Less, Equal, Greater}
use Rattle.std.specs.declared.cmp.Ordering.{Ordering}
use Rattle.std.proofs.Common.{ap}
use Rattle.std.specs.Ordering.{ordering_reverse}
use Rattle.numbers.specs.BigEndian.{Bytes}
use Rattle.keys.specs.Kinds.{Field, Kind, value_of}

-- what a maker shows of a kind
pub record Owed (code : ℕ) (lawful : Field → Bool) (order : Field → Field → Ordering) : Type 0 where
  pub is_a_byte : code < 256
  pub long : (a : Field) → lawful a ≡ true → length a ≡ 24
  pub bytes : (a : Field) → lawful a ≡ true → Bytes a
  pub exchanged : (a b : Field) → lawful a ≡ true → lawful b ≡ true → order b a ≡ ordering_reverse (order a b)
  pub itself : (a : Field) → lawful a ≡ true → order a a ≡ Equal
  pub same : (a b : Field) → lawful a ≡ true → lawful b ≡ true → order a b ≡ Equal → a ≡ b
  pub climbs : (a b d : Field) → lawful a ≡ true → lawful b ≡ true → lawful d ≡ true → order a b ≡ Less → order b d ≡ Less → order a d ≡ Less

-- an answer and its value
pub value_less : (o : Ordering) → value_of o ≡ negsuc 0 → o ≡ Less
value_less Less e = refl
value_less Equal e = cc
value_less Greater e = cc

pub value_equal : (o : Ordering) → value_of o ≡ pos 0 → o ≡ Equal
value_equal Less e = cc
value_equal Equal e = refl
value_equal Greater e = cc

pub reversed_value : (o p : Ordering) → p ≡ ordering_reverse o → value_of p ≡ neg_ℤ (value_of o)
reversed_value Less p e = ap value_of e
reversed_value Equal p e = ap value_of e
reversed_value Greater p e = ap value_of e

abbrev pub kind_of : (code : ℕ) (lawful : Field → Bool) (order : Field → Field → Ordering) → Owed code lawful order → Kind
kind_of code lawful order owed = record {
  code = code;
  lawful = lawful;
  order = order;
  code_is_a_byte = owed.is_a_byte;
  fields_have_24_bytes = owed.long;
  fields_hold_bytes = owed.bytes;
  exchange_changes_the_sign = λ a b la lb. reversed_value (order a b) (order b a) (owed.exchanged a b la lb);
  equal_bytes_give_0 = λ a la. ap value_of (owed.itself a la);
  only_equal_bytes_give_0 = λ a b la lb e. owed.same a b la lb (value_equal (order a b) e);
  below_is_transitive = λ a b d la lb ld e f. ap value_of (owed.climbs a b d la lb ld (value_less (order a b) e) (value_less (order b d) f));
}
