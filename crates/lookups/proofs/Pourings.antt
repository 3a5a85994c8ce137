-- Postings written into a list one by one. Assumes nothing.
use Rattle.std.proofs.Common.{◌≡◌, ℕ, zero, suc, ◌+◌, ◌-◌, min, List, [], ◌∷◌, ◌++◌, length, take, drop, set, sym, refl, ap, ◌∙◌, add-zero, add-suc, arith, length-set}
use Rattle.std.proofs.lemmas.List.{length-drop, length-take, drop-drop, take_min, drop_min}
use Rattle.lookups.specs.Pouring.{poured}

-- one after another
pub poured_append : (place : ℕ) (xs ys list : List ℕ) → poured place (xs ++ ys) list ≡ poured (place + length xs) ys (poured place xs list)
poured_append place [] ys list = ap (λ (n : ℕ). poured n ys list) (sym (add-zero place))
poured_append place (x ∷ xs) ys list = poured_append (suc place) xs ys (set list place x) ∙ ap (λ (n : ℕ). poured n ys (poured (suc place) xs (set list place x))) (omega (arith, add-suc place (length xs)))

pub length_poured : (place : ℕ) (xs list : List ℕ) → length (poured place xs list) ≡ length list
length_poured place [] list = refl
length_poured place (x ∷ xs) list = length_poured (suc place) xs (set list place x) ∙ length-set list place x

-- from the front: the first places are written, the others stay
poured_shift : (place : ℕ) (xs : List ℕ) (y : ℕ) (ys : List ℕ) → poured (suc place) xs (y ∷ ys) ≡ y ∷ poured place xs ys
poured_shift place [] y ys = refl
poured_shift place (x ∷ xs) y ys = poured_shift (suc place) xs y (set ys place x)

poured_nowhere : (place : ℕ) (xs : List ℕ) → poured place xs [] ≡ []
poured_nowhere place [] = refl
poured_nowhere place (x ∷ xs) = poured_nowhere (suc place) xs

pub poured_front : (xs list : List ℕ) → poured 0 xs list ≡ take (length list) xs ++ drop (length (take (length list) xs)) list
poured_front [] [] = refl
poured_front [] (l ∷ ls) = refl
poured_front (x ∷ xs) [] = poured_nowhere 1 xs
poured_front (x ∷ xs) (l ∷ ls) = poured_shift 0 xs x ls ∙ ap (λ (zs : List ℕ). x ∷ zs) (poured_front xs ls)

-- the places before stay, and those from there on are written from the front
poured_from : (place : ℕ) (xs list : List ℕ) → poured place xs list ≡ take place list ++ poured 0 xs (drop place list)
poured_from zero xs list = refl
poured_from (suc place) xs [] = poured_nowhere (suc place) xs ∙ sym (poured_nowhere 0 xs)
poured_from (suc place) xs (y ∷ ys) = poured_shift place xs y ys ∙ ap (λ (zs : List ℕ). y ∷ zs) (poured_from place xs ys)

-- as many as there is room for, over those that stand there
pub poured_over : (place start count : ℕ) (postings list : List ℕ) → start ≡ min place (length list) → count ≡ min (length postings) (length list - start) → take start list ++ (take count postings ++ drop (start + count) list) ≡ poured place postings list
poured_over place start count postings list from size =
    let room : length (drop place list) ≡ length list - start = length-drop place list ∙ omega arith in
    let fits : count ≡ min (length (drop place list)) (length postings) = omega arith in
    let front : take start list ≡ take place list = ap (λ (n : ℕ). take n list) from ∙ take_min place list in
    let rest : drop start list ≡ drop place list = ap (λ (n : ℕ). drop n list) from ∙ drop_min place list in
    let mid : take count postings ≡ take (length (drop place list)) postings = ap (λ (n : ℕ). take n postings) fits ∙ take_min (length (drop place list)) postings in
    let long : count ≡ length (take (length (drop place list)) postings) = fits ∙ sym (length-take (length (drop place list)) postings) in
    let tail : drop (start + count) list ≡ drop (length (take (length (drop place list)) postings)) (drop place list) = sym (drop-drop count start list) ∙ ap (drop count) rest ∙ ap (λ (n : ℕ). drop n (drop place list)) long in
    ap (λ (xs : List ℕ). xs ++ (take count postings ++ drop (start + count) list)) front
    ∙ ap (λ (xs : List ℕ). take place list ++ (xs ++ drop (start + count) list)) mid
    ∙ ap (λ (xs : List ℕ). take place list ++ (take (length (drop place list)) postings ++ xs)) tail
    ∙ ap (λ (xs : List ℕ). take place list ++ xs) (sym (poured_front postings (drop place list)))
    ∙ sym (poured_from place postings list)
