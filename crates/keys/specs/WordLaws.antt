-- The test for a word finds words, and no others.
use Rattle.std.specs.Prelude.{◌≡◌, ℕ, zero, suc, ◌-◌, ◌<◌, ◌≤◌, true, ◌&&◌, List, [], ◌∷◌, ◌++◌, length, take, drop, replicate, ◌==◌, nat_le, nat_lt, refl}
use Rattle.std.proofs.Common.{sym, ap, subst, ◌∙◌, ⊎_elim, arith, take-append-drop, length-append}
use Rattle.std.specs.List.{AllByRecursion}
use Rattle.std.proofs.ByRecursion.{All-append, All-weaker}
use Rattle.std.proofs.lemmas.List.{length-take-le, length-drop, drop_at, length-replicate}
use Rattle.std.proofs.lemmas.Bool.{and_parts, and_from, eqb-true, ltb-true, eq-eqb, lt-ltb, leb-true, or_cases, cond_both}
use Rattle.numbers.specs.BigEndian.{Bytes}
use Rattle.keys.specs.Kinds.{Field}
use Rattle.keys.specs.Fields.{zeros_only}
use Rattle.keys.specs.FieldLaws.{zeros_are, zeros_only_replicate, zeros_bytes}
use Rattle.keys.specs.Words.{letter, padded, Word, front, letters_then_zeros, lawful_word}

pub letter_byte : (b : ℕ) → letter b ≡ true → b < 256
letter_byte b e =
    let under : (low high : ℕ) → (nat_le low b && nat_le b high) ≡ true → b ≤ high = λ low high t. leb-true b high (and_parts (nat_le low b) (nat_le b high) t).1 in
    ⊎_elim (λ t. omega (arith, under 97 122 t)) (λ t. omega (arith, under 48 57 t)) (or_cases (nat_le 97 b && nat_le b 122) (nat_le 48 b && nat_le b 57) e)

pub front_within : (xs : List ℕ) → front xs ≤ length xs
front_within [] = omega arith
front_within (x ∷ xs) = cond_both (letter x) (suc (front xs)) 0 (λ n. n ≤ suc (length xs)) (λ e. omega (arith, front_within xs)) (λ e. omega arith)

front_letters : (xs : List ℕ) → AllByRecursion (λ b. letter b ≡ true) (take (front xs) xs)
front_letters [] = tt
front_letters (x ∷ xs) =
    cond_both (letter x) (suc (front xs)) 0 (λ n. AllByRecursion (λ b. letter b ≡ true) (take n (x ∷ xs))) (λ e. (e, front_letters xs)) (λ e. tt)

front_zeros : (n : ℕ) → front (replicate n 0) ≡ 0
front_zeros zero = refl
front_zeros (suc n) = refl

front_word : (word : List ℕ) (n : ℕ) → AllByRecursion (λ b. letter b ≡ true) word → front (word ++ replicate n 0) ≡ length word
front_word [] n all = front_zeros n
front_word (b ∷ bs) n all = rw all.0 (ap (λ (k : ℕ). suc k) (front_word bs n all.1))

pub word_from_lawful : (f : Field) → lawful_word f ≡ true → Word f
unfolding letters_then_zeros
word_from_lawful f e =
    let both = and_parts (length f == 24) (nat_lt 0 (front f) && zeros_only (drop (front f) f)) e in
    let rest = and_parts (nat_lt 0 (front f)) (zeros_only (drop (front f) f)) both.1 in
    let long = eqb-true (length f) 24 both.0 in
    let some = ltb-true 0 (front f) rest.0 in
    let within = front_within f in
    let cut = length-take-le (front f) f within in
    let left : length (drop (front f) f) ≡ 24 - length (take (front f) f) = simp length-drop (omega arith) in
    record {
      word = take (front f) f;
      at_least_1 = omega arith;
      at_most_24 = omega arith;
      letters = front_letters f;
      then_zeros = sym (take-append-drop (front f) f) ∙ ap (λ zs. take (front f) f ++ zs) (zeros_are (drop (front f) f) rest.1 ∙ ap (λ n. replicate n 0) left);
    }

pub lawful_padded : (word : List ℕ) → 1 ≤ length word → length word ≤ 24 → AllByRecursion (λ b. letter b ≡ true) word → lawful_word (padded word) ≡ true
unfolding letters_then_zeros
lawful_padded word some fits all =
    let long : length (padded word) ≡ 24 = simp (length-append, length-replicate) (omega arith) in
    let count = front_word word (24 - length word) all in
    let zeros : zeros_only (drop (front (padded word)) (padded word)) ≡ true = rw count (rw (drop_at word (replicate (24 - length word) 0) (length word) refl) (zeros_only_replicate (24 - length word))) in
    and_from (length (padded word) == 24) (nat_lt 0 (front (padded word)) && zeros_only (drop (front (padded word)) (padded word))) (eq-eqb (length (padded word)) 24 long)
    (and_from (nat_lt 0 (front (padded word))) (zeros_only (drop (front (padded word)) (padded word))) (lt-ltb 0 (front (padded word)) (omega arith)) zeros)

pub lawful_from_word : (f : Field) → Word f → lawful_word f ≡ true
lawful_from_word f w = ap lawful_word w.then_zeros ∙ lawful_padded w.word w.at_least_1 w.at_most_24 w.letters

pub word_has_24 : (f : Field) → lawful_word f ≡ true → length f ≡ 24
word_has_24 f e = eqb-true (length f) 24 (and_parts (length f == 24) (letters_then_zeros f) e).0

pub word_bytes : (f : Field) → lawful_word f ≡ true → Bytes f
word_bytes f e =
    let w = word_from_lawful f e in
    let all : Bytes (padded w.word) = All-append (λ b. b < 256) w.word (replicate (24 - length w.word) 0) (All-weaker (λ b. letter b ≡ true) (λ b. b < 256) letter_byte w.word w.letters) (zeros_bytes (24 - length w.word)) in
    subst Bytes (sym w.then_zeros) all
