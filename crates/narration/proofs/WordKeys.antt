-- The key of a word is lawful: its letters are letters, and there is at least one.
use Rattle.std.proofs.Common.{◌≡◌, ℕ, zero, suc, ◌+◌, ◌-◌, ◌<◌, min, true, cond, not, eqb, ltb, List, [], ◌∷◌, ◌++◌, map, length, get_or, take, drop, replicate, Some, None, sym, refl, ap, ◌∙◌, ⊎_elim, arith}
use Rattle.std.specs.List.{AllByRecursion}
use Rattle.std.proofs.ByRecursion.{All-take}
use Rattle.std.proofs.lemmas.List.{length-take, length-map, get_or-take, get_or-drop, get_or_past, take_all}
use Rattle.std.proofs.lemmas.List.Recursion.{and_from_places}
use Rattle.std.proofs.lemmas.Bool.Decides.{nat_tests}
use Rattle.std.proofs.lemmas.Bool.{and_parts, and_from, ltb-true, lt-ltb, cases_lt, both_ways}
use Rattle.keys.specs.Words.{letter, lawful_word}
use Rattle.keys.specs.WordLaws.{lawful_padded}
use Rattle.narration.specs.declared.Token.{Token}
use Rattle.narration.specs.declared.Token.TheVariants.{Word, Gap}
use Rattle.narration.specs.Letters.{mapped, ruled, in_word, all_in_word, is_a_word, key_of, fixed_table}
use Rattle.narration.specs.Tokens.{part_of, place_of, is_word, LongestRun, WordsHaveKeys}
use Rattle.narration.proofs.EachEntry.{table_long, table_right}

-- a table whose entries are letters or 0
abbrev pub Lettered : List ℕ → Type 0
Lettered table = (b : ℕ) → in_word table b ≡ true → letter (mapped table b) ≡ true

-- what the rule gives is a letter or 0
ruled_lettered : (b : ℕ) → not (eqb (ruled b) 0) ≡ true → letter (ruled b) ≡ true
ruled_lettered b h = grind (arith, nat_tests)

pub fixed_lettered : Lettered fixed_table
fixed_lettered b h =
    ⊎_elim (λ within. let right = table_right b within in ap letter right ∙ ruled_lettered b (ap (λ x. not (eqb x 0)) (sym right) ∙ h))
    (λ past. absurd (both_ways (in_word fixed_table b) (ap (λ x. not (eqb x 0)) (get_or_past fixed_table b 0 (omega (arith, table_long)))) h)) (cases_lt b 256)

module _ (table : List ℕ) where
  letters_all : Lettered table → (word : List ℕ) → all_in_word table word ≡ true → AllByRecursion (λ b. letter b ≡ true) (map (mapped table) word)
  letters_all lettered [] e = tt
  letters_all lettered (b ∷ bs) e =
      let both = and_parts (in_word table b) (all_in_word table bs) e in
      (lettered b both.0, letters_all lettered bs both.1)

  pub key_lawful : Lettered table → (word : List ℕ) → is_a_word table word ≡ true → lawful_word (key_of table word) ≡ true
  key_lawful lettered word e =
      let both = and_parts (ltb 0 (length word)) (all_in_word table word) e in
      let some = ltb-true 0 (length word) both.0 in
      let long : length (take 24 (map (mapped table) word)) ≡ min 24 (length word) = simp (length-take, length-map) in
      lawful_padded (take 24 (map (mapped table) word)) (omega arith) (omega arith) (All-take (λ b. letter b ≡ true) 24 (map (mapped table) word) (letters_all lettered word both.1))

  -- the part of a word that a reader hands out is a word
  word_is_a_word : (narration : List ℕ) (token : Token) → LongestRun table narration token → is_word token ≡ true → is_a_word table (part_of token) ≡ true
  word_is_a_word narration token run e =
      and_from (ltb 0 (length (part_of token))) (all_in_word table (part_of token)) (lt-ltb 0 (length (part_of token)) run.has_a_byte)
      (and_from_places (all_in_word table) (in_word table) refl (λ _ _. refl) (part_of token) 0 each)
    where
      each : (k : ℕ) → k < length (part_of token) → in_word table (get_or (part_of token) k 0) ≡ true
      each k h =
          ap (λ bytes. in_word table (get_or bytes k 0)) run.is_the_part ∙ ap (in_word table) (get_or-take (length (part_of token)) (drop (place_of token) narration) k 0 h ∙ get_or-drop (place_of token) narration k 0) ∙ run.of_its_sort (place_of token + k) (omega arith) (omega arith) ∙ e

  pub handed_have_keys : WordsHaveKeys table
  handed_have_keys narration (Word part place) run = ap (λ t. cond t (Some (key_of table part.now)) None) (word_is_a_word narration (Word part place) run refl)
  handed_have_keys narration (Gap part place) run = refl

-- a list that agrees with another at each of so many places, zeros counted behind its end, is its front, then zeros
pub front_then_zeros : (n : ℕ) (ys key : List ℕ) → length key ≡ n → ((k : ℕ) → k < n → get_or key k 0 ≡ get_or ys k 0) → key ≡ take n ys ++ replicate (n - length (take n ys)) 0
front_then_zeros zero ys [] long each = refl
front_then_zeros zero ys (x ∷ key) long each = absurd (omega arith)
front_then_zeros (suc n) ys [] long each = absurd (omega arith)
front_then_zeros (suc n) [] (x ∷ key) long each =
    let rest = front_then_zeros n [] key (omega arith) (λ k h. each (suc k) (omega arith)) in
    let none : ◌≡◌ {A = List ℕ} (take n []) [] = take_all n [] (omega arith) in
    let room : suc n - 0 ≡ suc (n - 0) = omega arith in
    (λ j. each 0 (omega arith) j ∷ rest j) ∙ ap (λ (zs : List ℕ). 0 ∷ (zs ++ replicate (n - length zs) 0)) none ∙ sym (ap (λ m. replicate m 0) room)
front_then_zeros (suc n) (y ∷ ys) (x ∷ key) long each =
    let rest = front_then_zeros n ys key (omega arith) (λ k h. each (suc k) (omega arith)) in
    let room : suc n - suc (length (take n ys)) ≡ n - length (take n ys) = omega arith in
    (λ j. each 0 (omega arith) j ∷ rest j) ∙ sym (ap (λ m. y ∷ (take n ys ++ replicate m 0)) room)
