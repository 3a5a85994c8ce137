-- Laws of zeros, bytes and numbers in fields.
use Rattle.std.specs.Prelude.{◌≡◌, ℕ, zero, suc, ◌+◌, ◌-◌, ◌^◌, ◌<◌, ◌≤◌, Bool, true, ◌&&◌, List, [], ◌∷◌, ◌++◌, length, take, drop, replicate, ◌==◌, nat_lt, refl}
use Rattle.std.proofs.Common.{sym, ap, subst, ◌∙◌, arith, take-append-drop}
use Rattle.std.proofs.lemmas.Int.Digits.{number_lt}
use Rattle.std.proofs.ByRecursion.{All-take, All-drop}
use Rattle.std.proofs.lemmas.List.{drop-drop, take_rest}
use Rattle.std.proofs.Math.Bool.{and-true}
use Rattle.std.proofs.lemmas.Bool.{and_parts, and_from, eqb-true, ltb-true, lt-ltb}
use Rattle.numbers.specs.BigEndian.{Bytes, bytes_of, number_of, number_at, part}
use Rattle.numbers.proofs.Spelling.{bytes_of_number, number_is, length_part}
use Rattle.keys.specs.Kinds.{Field}
use Rattle.keys.specs.Fields.{zeros_only, bytes_only}

pub zeros_are : (xs : List ℕ) → zeros_only xs ≡ true → xs ≡ replicate (length xs) 0
zeros_are [] e = refl
zeros_are (x ∷ xs) e =
    let both = and_parts (x == 0) (zeros_only xs) e in
    λ i. eqb-true x 0 both.0 i ∷ zeros_are xs both.1 i

pub zeros_only_replicate : (n : ℕ) → zeros_only (replicate n 0) ≡ true
zeros_only_replicate zero = refl
zeros_only_replicate (suc n) = zeros_only_replicate n

pub zeros_bytes : (n : ℕ) → Bytes (replicate n 0)
zeros_bytes zero = tt
zeros_bytes (suc n) = (omega arith, zeros_bytes n)

pub bytes_from_test : (xs : List ℕ) → bytes_only xs ≡ true → Bytes xs
bytes_from_test [] e = tt
bytes_from_test (x ∷ xs) e = let both = and_parts (nat_lt x 256) (bytes_only xs) e in (ltb-true x 256 both.0, bytes_from_test xs both.1)

pub test_from_bytes : (xs : List ℕ) → Bytes xs → bytes_only xs ≡ true
test_from_bytes [] all = refl
test_from_bytes (x ∷ xs) all = and_from (nat_lt x 256) (bytes_only xs) (lt-ltb x 256 all.0) (test_from_bytes xs all.1)

pub part_bytes : (at width : ℕ) (f : List ℕ) → Bytes f → Bytes (part at width f)
part_bytes at width f all = All-take (λ b. b < 256) width (drop at f) (All-drop (λ b. b < 256) at f all)

-- bytes are those of their number, so one number is one part
pub same_part : (at width : ℕ) (f g : Field) → at + width ≤ length f → at + width ≤ length g → Bytes f → Bytes g → number_at width f at ≡ number_at width g at → part at width f ≡ part at width g
same_part at width f g hf hg bf bg e =
    sym (bytes_of_number width (part at width f) (length_part at width f hf) (part_bytes at width f bf)) ∙ ap (bytes_of width) (sym (number_is width at f hf) ∙ e ∙ number_is width at g hg) ∙ bytes_of_number width (part at width g) (length_part at width g hg) (part_bytes at width g bg)

pub number_fits : (f : Field) (at : ℕ) → at + 4 ≤ length f → Bytes f → number_at 4 f at < 2 ^ 32
number_fits f at h all =
    let small = number_lt 256 (part at 4 f) (part_bytes at 4 f all) in
    rw (number_is 4 at f h) (subst (λ n. number_of (part at 4 f) < 256 ^ n) (length_part at 4 f h) small)

in_three : (f : Field) → part 0 4 f ++ (part 4 4 f ++ drop 8 f) ≡ f
in_three f = ap (λ rest. take 4 f ++ rest) (ap (λ rest. part 4 4 f ++ rest) (sym (drop-drop 4 4 f)) ∙ take-append-drop 4 (drop 4 f)) ∙ take-append-drop 4 f

-- fields of two four-byte numbers each and the same rest
pub same_by_two_numbers : (a b : Field) → length a ≡ 24 → length b ≡ 24 → Bytes a → Bytes b → number_at 4 a 0 ≡ number_at 4 b 0 → number_at 4 a 4 ≡ number_at 4 b 4 → drop 8 a ≡ drop 8 b → a ≡ b
same_by_two_numbers a b long_a long_b bytes-a bytes-b first second rest =
    let front = same_part 0 4 a b (omega arith) (omega arith) bytes-a bytes-b first in
    let middle = same_part 4 4 a b (omega arith) (omega arith) bytes-a bytes-b second in
    sym (in_three a) ∙ (λ i. front i ++ (middle i ++ rest i)) ∙ in_three b

-- the answer of a look at the zeros from a place on, where the field is known to hold bytes
pub zeros_told : (f : Field) (n : ℕ) (r : Bool) → Bytes f → r ≡ zeros_only (take (length f - n) (drop n f)) → r ≡ (zeros_only (drop n f) && bytes_only f)
zeros_told f n r all e =
    e ∙ ap zeros_only (take_rest f n) ∙ sym (ap (λ t. zeros_only (drop n f) && t) (test_from_bytes f all) ∙ and-true (zeros_only (drop n f)))
