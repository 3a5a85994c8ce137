-- No word lies below the lowest or above the highest. Assumes nothing.
use Rattle.std.proofs.Common.{◌≡◌, ℕ, zero, suc, ◌-◌, ◌≤◌, Bool, true, false, cond, not, ◌&&◌, ltb, leb, List, [], ◌∷◌, ◌++◌, length, replicate, Some, None, filter, Option, Ordering, Equal, Greater, sym, refl, ap, ◌∙◌, subst, ⊎_elim, arith}
use Rattle.std.specs.Ordering.{is_lt, ordering_then}
use Rattle.std.specs.List.{flat_map, AllByRecursion}
use Rattle.std.proofs.ByRecursion.{All-append, All-weaker}
use Rattle.std.proofs.lemmas.List.{length-append, length-replicate}
use Rattle.std.proofs.lemmas.Bool.{le-ltb, leb-true, and_parts, or_cases}
use Rattle.keys.specs.Kinds.{Field}
use Rattle.keys.specs.Fields.{by_number, by_bytes}
use Rattle.keys.specs.Words.{letter, padded, letters_then_zeros, lawful_word}
use Rattle.keys.specs.WordLaws.{word_from_lawful, word_has_24}
use Rattle.keys.specs.BuiltIn.{word_kind}
use Rattle.book.specs.Books.{Held, Book, SortedFrom}
use Rattle.book.specs.Looking.{rows_under, within}
use Rattle.book_listing.specs.Whole.{lowest_word, highest_word, ListsAll}

not_less : (x y : ℕ) (o : Ordering) → y ≤ x → is_lt o ≡ false → is_lt (ordering_then (by_number x y) o) ≡ false
not_less x y o h rest = rw (le-ltb x y h) (go (ltb y x))
  where
    go : (t : Bool) → is_lt (ordering_then (cond t Greater Equal) o) ≡ false
    go true = refl
    go false = rest

from_zeros : (xs : List ℕ) → is_lt (by_bytes xs (replicate (length xs) 0)) ≡ false
from_zeros [] = refl
from_zeros (x ∷ xs) = not_less x 0 (by_bytes xs (replicate (length xs) 0)) (omega arith) (from_zeros xs)

up_to_z : (xs : List ℕ) → AllByRecursion (λ (x : ℕ). x ≤ 122) xs → is_lt (by_bytes (replicate (length xs) 122) xs) ≡ false
up_to_z [] all = refl
up_to_z (x ∷ xs) all = not_less 122 x (by_bytes (replicate (length xs) 122) xs) all.0 (up_to_z xs all.1)

letter_cases : (b : ℕ) (P : Type 0) → letter b ≡ true → (97 ≤ b → b ≤ 122 → P) → (48 ≤ b → b ≤ 57 → P) → P
letter_cases b P e small figure =
    let both : (low high : ℕ) → (leb low b && leb b high) ≡ true → (low ≤ b) × (b ≤ high) = λ low high t. let p = and_parts (leb low b) (leb b high) t in (leb-true low b p.0, leb-true b high p.1) in
    ⊎_elim (λ t. let p = both 97 122 t in small p.0 p.1) (λ t. let p = both 48 57 t in figure p.0 p.1) (or_cases (leb 97 b && leb b 122) (leb 48 b && leb b 57) e)

letter_from_0 : (b : ℕ) → letter b ≡ true → 48 ≤ b
letter_from_0 b e = letter_cases b (48 ≤ b) e (λ low high. omega arith) (λ low high. low)

letter_to_z : (b : ℕ) → letter b ≡ true → b ≤ 122
letter_to_z b e = letter_cases b (b ≤ 122) e (λ low high. high) (λ low high. omega arith)

above_lowest : (word : List ℕ) → 1 ≤ length word → length word ≤ 24 → AllByRecursion (λ (b : ℕ). letter b ≡ true) word → is_lt (by_bytes (padded word) lowest_word) ≡ false
above_lowest [] some few all = absurd (omega arith)
above_lowest (b ∷ bs) some few all =
    let rest = bs ++ replicate (24 - suc (length bs)) 0 in
    let long : length rest ≡ 23 = simp (length-append, length-replicate) (omega arith) in
    not_less b 48 (by_bytes rest (replicate 23 0)) (letter_from_0 b all.0) (subst (λ (n : ℕ). is_lt (by_bytes rest (replicate n 0)) ≡ false) long (from_zeros rest))

zeros_to_z : (n : ℕ) → AllByRecursion (λ (x : ℕ). x ≤ 122) (replicate n 0)
zeros_to_z zero = tt
zeros_to_z (suc n) = (omega arith, zeros_to_z n)

all_within : (f : Field) → lawful_word f ≡ true → within word_kind lowest_word highest_word f ≡ true
all_within f e =
    let w = word_from_lawful f e in
    let small : AllByRecursion (λ (x : ℕ). x ≤ 122) (padded w.word) = All-append (λ (x : ℕ). x ≤ 122) w.word (replicate (24 - length w.word) 0) (All-weaker (λ (b : ℕ). letter b ≡ true) (λ (x : ℕ). x ≤ 122) letter_to_z w.word w.letters) (zeros_to_z (24 - length w.word)) in
    let low : is_lt (by_bytes f lowest_word) ≡ false = ap (λ (x : Field). is_lt (by_bytes x lowest_word)) w.then_zeros ∙ above_lowest w.word w.at_least_1 w.at_most_24 w.letters in
    let high : is_lt (by_bytes highest_word f) ≡ false = subst (λ (n : ℕ). is_lt (by_bytes (replicate n 122) f) ≡ false) (word_has_24 f e) (up_to_z f (subst (AllByRecursion (λ (x : ℕ). x ≤ 122)) (sym w.then_zeros) small)) in
    ap (λ (t : Bool). not t && not (is_lt (by_bytes highest_word f))) low ∙ ap not high

keeps_all : (before : Option Field) (book : Book) → SortedFrom word_kind before book → filter (λ (held : Held (List ℕ)). within word_kind lowest_word highest_word held.key) book ≡ book
keeps_all before [] s = refl
keeps_all before (held ∷ book) s =
    let rest = filter (λ (h : Held (List ℕ)). within word_kind lowest_word highest_word h.key) book in
    ap (λ (t : Bool). cond t (held ∷ rest) rest) (all_within held.key s.0) ∙ ap (λ (b : Book). held ∷ b) (keeps_all (Some held.key) book s.2)

pub lists_all : ListsAll
unfolding letters_then_zeros
lists_all = record {
  lowest_is_a_key = refl;
  highest_is_a_key = refl;
  all_rows_are_its_listing = λ book s. ap (flat_map rows_under) (keeps_all None book s);
}
