-- Where a number stands in a list, and the list without it.
use Rattle.std.proofs.Common.{◌≡◌, ℕ, suc, ◌+◌, ◌<◌, ◌≤◌, Bool, true, false, cond, not, ◌||◌, eqb, ltb, leb, ◌⊎◌, List, [], ◌∷◌, ◌++◌, map, length, get_or, take, drop, Some, None, zero-add, sym, refl, ap, ◌∙◌, inl, inr, arith}
use Rattle.std.specs.List.{position, prefix_len, flat_map, list_any, remove}
use Rattle.std.proofs.lemmas.Bool.{eq-eqb, ne_eqb, cases_eq, le-leb, lt-ltb, le-ltb, ltb-true, ltb-false}
use Rattle.std.proofs.lemmas.Bool.Decides.{nat_tests}
use Rattle.book.specs.Books.{count, has, without}
use Rattle.book.specs.Entries.{kept, without_in}
use Rattle.book.proofs.Counting.{has_yes, has_not, has_counted, count-++}

-- a position is that of the first element that passes
module _ {X : Type 0} (p : X → Bool) (xs : List X) where
  pub place_some : (i : ℕ) → Some i ≡ position p xs → (i ≡ prefix_len (λ x. not (p x)) xs) × (i < length xs)
  place_some i e = go (ltb (prefix_len (λ x. not (p x)) xs) (length xs)) refl e
    where
      go : (b : Bool) → ltb (prefix_len (λ x. not (p x)) xs) (length xs) ≡ b → Some i ≡ cond b (Some (prefix_len (λ x. not (p x)) xs)) None → (i ≡ prefix_len (λ x. not (p x)) xs) × (i < length xs)
      go true t e = let same : i ≡ prefix_len (λ x. not (p x)) xs = cc in (same, rw same (ltb-true (prefix_len (λ x. not (p x)) xs) (length xs) t))
      go false t e = cc

  pub place_none : None ≡ position p xs → length xs ≤ prefix_len (λ x. not (p x)) xs
  place_none e = go (ltb (prefix_len (λ x. not (p x)) xs) (length xs)) refl e
    where
      go : (b : Bool) → ltb (prefix_len (λ x. not (p x)) xs) (length xs) ≡ b → None ≡ cond b (Some (prefix_len (λ x. not (p x)) xs)) None → length xs ≤ prefix_len (λ x. not (p x)) xs
      go true t e = cc
      go false t e = ltb-false (prefix_len (λ x. not (p x)) xs) (length xs) t

-- whether a number stands in a list
pub any_has : (n : ℕ) (xs : List ℕ) → list_any (λ m. eqb m n) xs ≡ has n xs
any_has n [] = refl
any_has n (x ∷ xs) = go (cases_eq x n) (any_has n xs)
  where
    go : (x ≡ n) ⊎ (x ≡ n → ⊥) → list_any (λ m. eqb m n) xs ≡ has n xs → list_any (λ m. eqb m n) (x ∷ xs) ≡ has n (x ∷ xs)
    go (inl e) ih = rw (eq-eqb x n e, eq-eqb n x (sym e)) (sym (le-leb 1 (1 + count n xs) (omega arith)))
    go (inr e) ih = rw (ne_eqb x n e, ne_eqb n x (λ z. e (sym z))) (ih ∙ ap (leb 1) (sym (zero-add (count n xs))))

-- a place in a list of lists that are read from others
pub front_mapped : {X Y : Type 0} (f : X → Y) (p : Y → Bool) (xs : List X) → prefix_len (λ x. p (f x)) xs ≡ prefix_len p (map f xs)
front_mapped f p [] = refl
front_mapped f p (x ∷ xs) = ap (λ (k : ℕ). cond (p (f x)) (1 + k) 0) (front_mapped f p xs)

-- a number that stands in a list, or does not
pub stands_before_the_end : (n : ℕ) (xs : List ℕ) → ltb (prefix_len (λ m. not (eqb n m)) xs) (length xs) ≡ has n xs
stands_before_the_end n [] = refl
stands_before_the_end n (x ∷ xs) = go (cases_eq n x) (stands_before_the_end n xs)
  where
    go : (n ≡ x) ⊎ (n ≡ x → ⊥) → ltb (prefix_len (λ m. not (eqb n m)) xs) (length xs) ≡ has n xs → ltb (prefix_len (λ m. not (eqb n m)) (x ∷ xs)) (length (x ∷ xs)) ≡ has n (x ∷ xs)
    go (inl e) ih = rw (eq-eqb n x e) (lt-ltb 0 (suc (length xs)) (omega arith) ∙ sym (le-leb 1 (1 + count n xs) (omega arith)))
    go (inr e) ih = rw (ne_eqb n x e) (shift (prefix_len (λ m. not (eqb n m)) xs) (length xs) (count n xs) ih)
      where
        shift : (a b k : ℕ) → ltb a b ≡ leb 1 k → ltb (1 + a) (suc b) ≡ leb 1 (0 + k)
        shift a b k ih = grind (arith, nat_tests)

-- a number taken out at its place
abbrev pub unlike : ℕ → ℕ → Bool
unlike n m = not (eqb n m)

removed_more : (i : ℕ) (x : ℕ) (xs : List ℕ) → remove (x ∷ xs) (1 + i) ≡ x ∷ remove xs i
removed_more i x xs = let e : 1 + i ≡ suc i = omega arith in ap (remove (x ∷ xs)) e

pub removed : (n : ℕ) (xs : List ℕ) → prefix_len (λ m. not (eqb n m)) xs < length xs → remove xs (prefix_len (λ m. not (eqb n m)) xs) ≡ without n xs
removed n [] h = absurd (omega arith)
removed n (x ∷ xs) h = go (eqb n x) h (λ k. removed n xs k)
  where
    go : (b : Bool) → cond (not b) (1 + prefix_len (unlike n) xs) 0 < suc (length xs) → (prefix_len (unlike n) xs < length xs → remove xs (prefix_len (unlike n) xs) ≡ without n xs)
        → remove (x ∷ xs) (cond (not b) (1 + prefix_len (unlike n) xs) 0) ≡ cond b xs (x ∷ without n xs)
    go true h ih = refl
    go false h ih = removed_more (prefix_len (unlike n) xs) x xs ∙ ap (λ (rest : List ℕ). x ∷ rest) (ih (omega arith))

pub nothing_removed : (n : ℕ) (xs : List ℕ) → length xs ≤ prefix_len (λ m. not (eqb n m)) xs → xs ≡ without n xs
nothing_removed n [] h = refl
nothing_removed n (x ∷ xs) h = go (eqb n x) h (λ k. nothing_removed n xs k)
  where
    go : (b : Bool) → suc (length xs) ≤ cond (not b) (1 + prefix_len (unlike n) xs) 0 → (length xs ≤ prefix_len (unlike n) xs → xs ≡ without n xs) → x ∷ xs ≡ cond b xs (x ∷ without n xs)
    go true h ih = absurd (omega arith)
    go false h ih = ap (λ (rest : List ℕ). x ∷ rest) (ih (omega arith))

-- the place of a number within the list, or past its end
pub found_there : (n : ℕ) (xs : List ℕ) (i : ℕ) → i ≡ prefix_len (unlike n) xs → i < length xs → has n xs ≡ true
found_there n xs i e h = sym (stands_before_the_end n xs) ∙ lt-ltb (prefix_len (unlike n) xs) (length xs) (omega arith)

pub not_found : (n : ℕ) (xs : List ℕ) (i : ℕ) → i ≡ prefix_len (unlike n) xs → length xs ≤ i → has n xs ≡ false
not_found n xs i e h = sym (stands_before_the_end n xs) ∙ le-ltb (prefix_len (unlike n) xs) (length xs) (omega arith)

-- the first record with a number
abbrev pub lacking : ℕ → List ℕ → Bool
lacking n r = not (has n r)

pub none_has : (n : ℕ) (rs : List (List ℕ)) → length rs ≤ prefix_len (lacking n) rs → without_in n rs ≡ rs
none_has n [] h = refl
none_has n (r ∷ rs) h = go (has n r) h (λ k. none_has n rs k)
  where
    go : (b : Bool) → suc (length rs) ≤ cond (not b) (1 + prefix_len (lacking n) rs) 0 → (length rs ≤ prefix_len (lacking n) rs → without_in n rs ≡ rs) → cond b (kept (without n r) rs) (r ∷ without_in n rs) ≡ r ∷ rs
    go true h ih = absurd (omega arith)
    go false h ih = ap (λ (rest : List (List ℕ)). r ∷ rest) (ih (omega arith))

-- a record put back at its place, unless it is empty
abbrev pub put_back : ℕ → List ℕ → List (List ℕ) → List (List ℕ)
put_back i r rs = take i rs ++ kept r (drop (suc i) rs)

pub first_that_has : (n : ℕ) (rs : List (List ℕ)) → prefix_len (lacking n) rs < length rs → put_back (prefix_len (lacking n) rs) (without n (get_or rs (prefix_len (lacking n) rs) [])) rs ≡ without_in n rs
first_that_has n [] h = absurd (omega arith)
first_that_has n (r ∷ rs) h = go (has n r) h (λ k. first_that_has n rs k)
  where
    go : (b : Bool) → cond (not b) (1 + prefix_len (lacking n) rs) 0 < suc (length rs) → (prefix_len (lacking n) rs < length rs → put_back (prefix_len (lacking n) rs) (without n (get_or rs (prefix_len (lacking n) rs) [])) rs ≡ without_in n rs)
        → put_back (cond (not b) (1 + prefix_len (lacking n) rs) 0) (without n (get_or (r ∷ rs) (cond (not b) (1 + prefix_len (lacking n) rs) 0) [])) (r ∷ rs) ≡ cond b (kept (without n r) rs) (r ∷ without_in n rs)
    go true h ih = refl
    go false h ih =
        let e : 1 + prefix_len (lacking n) rs ≡ suc (prefix_len (lacking n) rs) = omega arith in
        ap (λ (k : ℕ). put_back k (without n (get_or (r ∷ rs) k [])) (r ∷ rs)) e ∙ ap (λ (rest : List (List ℕ)). r ∷ rest) (ih (omega arith))

-- among all postings
pub has_in_either : (n : ℕ) (xs ys : List ℕ) → (has n xs || has n ys) ≡ has n (xs ++ ys)
has_in_either n xs ys = rw (count-++ n xs ys) (go (count n xs) (count n ys))
  where
    go : (a b : ℕ) → (leb 1 a || leb 1 b) ≡ leb 1 (a + b)
    go a b = grind (arith, nat_tests)

pub has_in_chain : {X : Type 0} (f : X → List ℕ) (n : ℕ) (rs : List X) → list_any (λ r. has n (f r)) rs ≡ has n (flat_map (λ (r : List ℕ). r) (map f rs))
has_in_chain f n [] = refl
has_in_chain f n (r ∷ rs) = ap (λ (b : Bool). has n (f r) || b) (has_in_chain f n rs) ∙ has_in_either n (f r) (flat_map (λ (x : List ℕ). x) (map f rs))

pub has_before_the_end : (n : ℕ) (rs : List (List ℕ)) → ltb (prefix_len (lacking n) rs) (length rs) ≡ has n (flat_map (λ (r : List ℕ). r) rs)
has_before_the_end n [] = refl
has_before_the_end n (r ∷ rs) = go (has n r) refl (has_before_the_end n rs)
  where
    go : (b : Bool) → has n r ≡ b → ltb (prefix_len (lacking n) rs) (length rs) ≡ has n (flat_map (λ (x : List ℕ). x) rs)
        → ltb (cond (not b) (1 + prefix_len (lacking n) rs) 0) (suc (length rs)) ≡ has n (r ++ flat_map (λ (x : List ℕ). x) rs)
    go true e ih =
        lt-ltb 0 (suc (length rs)) (omega arith)
        ∙ sym (has_counted n (r ++ flat_map (λ (x : List ℕ). x) rs) (omega (arith, has_yes n r e, count-++ n r (flat_map (λ (x : List ℕ). x) rs))))
    go false e ih =
        shift (prefix_len (lacking n) rs) (length rs) (count n (flat_map (λ (x : List ℕ). x) rs)) (count n (r ++ flat_map (λ (x : List ℕ). x) rs)) ih
        (omega (arith, has_not n r e, count-++ n r (flat_map (λ (x : List ℕ). x) rs)))
      where
        shift : (a b k l : ℕ) → ltb a b ≡ leb 1 k → l ≡ k → ltb (1 + a) (suc b) ≡ leb 1 l
        shift a b k l ih same = grind (arith, nat_tests)
