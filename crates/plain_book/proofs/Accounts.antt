-- What an account becomes, over lists: `f` reads a record's postings.
use Rattle.std.proofs.Common.{◌≡◌, ℕ, suc, ◌+◌, ◌<◌, ◌≤◌, List, [], ◌∷◌, ◌++◌, map, length, get_or, take, drop, set, sym, refl, ap, ◌∙◌, arith}
use Rattle.std.specs.List.{prefix_len, remove}
use Rattle.std.proofs.lemmas.List.{length-map, take-map, drop-map, get_or-map, map-append, map-set, take-set, drop-set, drop-set-lt, take-append-drop}
use Rattle.book.specs.Books.{without}
use Rattle.book.specs.Entries.{kept, without_in}
use Rattle.plain_book.proofs.Positions.{lacking, put_back, none_has, first_that_has}

module _ {X : Type 0} (f : X → List ℕ) where
  -- the record at a place
  pub record_at : (rs : List X) (i : ℕ) (r : X) → i < length rs → r ≡ get_or rs i r → get_or (map f rs) i [] ≡ f r
  record_at rs i r h e = get_or-map f rs i r [] h ∙ ap f (sym e)

  map_removed : (rs : List X) (i : ℕ) (r : X) → i < length rs → map f (remove (set rs i r) i) ≡ take i (map f rs) ++ drop (suc i) (map f rs)
  map_removed rs i r h =
      ap (λ (l : List X). map f (l ++ drop (suc i) (set rs i r))) (take-set rs i r) ∙ (ap (λ (l : List X). map f (take i rs ++ l)) (drop-set-lt (suc i) rs i r (omega arith))
      ∙ (map-append f (take i rs) (drop (suc i) rs) ∙ rw (take-map f i rs, drop-map f (suc i) rs)))

  map_replaced : (rs : List X) (i : ℕ) (r : X) → i < length rs → map f (set rs i r) ≡ take i (map f rs) ++ f r ∷ drop (suc i) (map f rs)
  map_replaced rs i r h =
      let one : i + 1 ≡ suc i = omega arith in
      let all = map f rs in
      map-set f rs i r
      ∙ (sym (take-append-drop i (set all i (f r)))
      ∙ (ap (λ (l : List (List ℕ)). l ++ drop i (set all i (f r))) (take-set all i (f r))
      ∙ (ap (λ (l : List (List ℕ)). take i all ++ l) (drop-set all i (f r) (omega (arith, length-map rs f))) ∙ ap (λ (k : ℕ). take i all ++ f r ∷ drop k all) one)))

  kept_some : (r : List ℕ) (rest : List (List ℕ)) → 0 < length r → kept r rest ≡ r ∷ rest
  kept_some [] rest h = absurd (omega arith)
  kept_some (p ∷ ps) rest h = refl

  kept_none : (r : List ℕ) (rest : List (List ℕ)) → length r ≡ 0 → kept r rest ≡ rest
  kept_none [] rest h = refl
  kept_none (p ∷ ps) rest h = absurd (omega arith)

  chosen : (n : ℕ) (rs : List X) (i : ℕ) (r r' : X) → i ≡ prefix_len (lacking n) (map f rs) → i < length rs → r ≡ get_or rs i r → f r' ≡ without n (f r) → put_back i (f r') (map f rs) ≡ without_in n (map f rs)
  chosen n rs i r r' e h g w =
      ap (λ (x : List ℕ). put_back i x (map f rs)) (w ∙ ap (without n) (sym (record_at rs i r h g)))
      ∙ (ap (λ (k : ℕ). put_back k (without n (get_or (map f rs) k [])) (map f rs)) e ∙ first_that_has n (map f rs) (omega (arith, length-map rs f)))

  -- a number taken out of its record
  pub taken_kept : (n : ℕ) (rs : List X) (i : ℕ) (r r' : X) → i ≡ prefix_len (lacking n) (map f rs) → i < length rs → r ≡ get_or rs i r → f r' ≡ without n (f r) → 0 < length (f r') → map f (set rs i r') ≡ without_in n (map f rs)
  taken_kept n rs i r r' e l g w some =
      map_replaced rs i r' l ∙ (ap (λ (x : List (List ℕ)). take i (map f rs) ++ x) (sym (kept_some (f r') (drop (suc i) (map f rs)) some)) ∙ chosen n rs i r r' e l g w)

  pub taken_gone : (n : ℕ) (rs : List X) (i : ℕ) (r r' : X) → i ≡ prefix_len (lacking n) (map f rs) → i < length rs → r ≡ get_or rs i r → f r' ≡ without n (f r) → length (f r') ≡ 0 → map f (remove (set rs i r') i) ≡ without_in n (map f rs)
  taken_gone n rs i r r' e l g w none =
      map_removed rs i r' l ∙ (ap (λ (x : List (List ℕ)). take i (map f rs) ++ x) (sym (kept_none (f r') (drop (suc i) (map f rs)) none)) ∙ chosen n rs i r r' e l g w)

  pub taken_nowhere : (n : ℕ) (rs : List X) → length rs ≤ prefix_len (lacking n) (map f rs) → map f rs ≡ without_in n (map f rs)
  taken_nowhere n rs l = sym (none_has n (map f rs) (omega (arith, l, length-map rs f)))
