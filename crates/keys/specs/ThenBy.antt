-- First by this order, then by that: the laws of an order put together from two.
use Rattle.std.specs.Prelude.{◌≡◌, ℕ, ◌<◌, List, [], ◌∷◌, ℤ, pos, negsuc, refl}
use Rattle.std.specs.declared.cmp.Ordering.TheVariants.{Less, Equal, Greater}
use Rattle.std.specs.declared.cmp.Ordering.{Ordering}
use Rattle.std.proofs.Common.{sym, ap, ◌∙◌, arith, ⊎_elim}
use Rattle.std.proofs.lemmas.Bool.{lt-ltb, le-ltb, cases_order}
use Rattle.std.specs.Ordering.{ordering_reverse, ordering_then}
use Rattle.keys.specs.Fields.{by_number, by_signed, by_bytes}

-- a comparison of the values of a type that is an order
pub record Total {X : Type 0} (order : X → X → Ordering) : Type 0 where
  pub exchanged : (a b : X) → order b a ≡ ordering_reverse (order a b)
  pub itself : (a : X) → order a a ≡ Equal
  pub same : (a b : X) → order a b ≡ Equal → a ≡ b
  pub climbs : (a b d : X) → order a b ≡ Less → order b d ≡ Less → order a d ≡ Less

pub then_reversed : (o o' p p' : Ordering) → o' ≡ ordering_reverse o → p' ≡ ordering_reverse p → ordering_then o' p' ≡ ordering_reverse (ordering_then o p)
then_reversed Less o' p p' e f = ap (λ w. ordering_then w p') e
then_reversed Equal o' p p' e f = ap (λ w. ordering_then w p') e ∙ f
then_reversed Greater o' p p' e f = ap (λ w. ordering_then w p') e

pub then_equal : (o p : Ordering) → ordering_then o p ≡ Equal → (o ≡ Equal) × (p ≡ Equal)
then_equal Less p e = (e, cc)
then_equal Equal p e = (refl, e)
then_equal Greater p e = (e, cc)

-- two values compared by a first part, with the answer p for the rest
module _ {X : Type 0} {first : X → X → Ordering} (one : Total first) where
  pub then_same : (x x' : X) (p : Ordering) → ordering_then (first x x') p ≡ Equal → (x ≡ x') × (p ≡ Equal)
  then_same x x' p e = let both = then_equal (first x x') p e in (one.same x x' both.0, both.1)

  pub then_climbs : (x x' x'' : X) (p p' p'' : Ordering) → (p ≡ Less → p' ≡ Less → p'' ≡ Less) → ordering_then (first x x') p ≡ Less → ordering_then (first x' x'') p' ≡ Less → ordering_then (first x x'') p'' ≡ Less
  then_climbs x x' x'' p p' p'' rest e f = go (first x x') (first x' x'') refl refl e f
    where
      left : first x x' ≡ Equal → first x x'' ≡ first x' x''
      left eo = ap (λ z. first z x'') (one.same x x' eo)

      right : first x' x'' ≡ Equal → first x x'' ≡ first x x'
      right eo = sym (ap (λ z. first x z) (one.same x' x'' eo))

      go : (o o' : Ordering) → first x x' ≡ o → first x' x'' ≡ o' → ordering_then o p ≡ Less → ordering_then o' p' ≡ Less → ordering_then (first x x'') p'' ≡ Less
      go Less Less eo ep h g = ap (λ w. ordering_then w p'') (one.climbs x x' x'' eo ep)
      go Less Equal eo ep h g = ap (λ w. ordering_then w p'') (right ep ∙ eo)
      go Less Greater eo ep h g = cc
      go Equal Less eo ep h g = ap (λ w. ordering_then w p'') (left eo ∙ ep)
      go Equal Equal eo ep h g = ap (λ w. ordering_then w p'') (left eo ∙ ep) ∙ rest h g
      go Equal Greater eo ep h g = cc
      go Greater o' eo ep h g = cc

-- numbers
pub number_less : (a b : ℕ) → a < b → by_number a b ≡ Less
number_less a b h = rw (lt-ltb a b h)

pub number_equal : (a b : ℕ) → a ≡ b → by_number a b ≡ Equal
number_equal a b h = rw (le-ltb a b (omega arith), le-ltb b a (omega arith))

pub number_greater : (a b : ℕ) → b < a → by_number a b ≡ Greater
number_greater a b h = rw (le-ltb a b (omega arith), lt-ltb b a h)

-- what holds of a and b where they compare so
pub by_cases : (a b : ℕ) {P : Type 0} → (a < b → by_number a b ≡ Less → P) → (a ≡ b → by_number a b ≡ Equal → P) → (b < a → by_number a b ≡ Greater → P) → P
by_cases a b less equal greater =
    ⊎_elim (λ h. equal h (number_equal a b h)) (⊎_elim (λ h. less h (number_less a b h)) (λ h. greater h (number_greater a b h))) (cases_order a b)

less_number : (a b : ℕ) → by_number a b ≡ Less → a < b
less_number a b e =
    by_cases a b (λ h f. h) (λ h f. let no' : ◌≡◌ {A = ℕ} 0 1 = cc in absurd (omega arith)) (λ h f. let no' : ◌≡◌ {A = ℕ} 0 1 = cc in absurd (omega arith))

pub by_number_is_total : Total by_number
by_number_is_total = record {
  exchanged = λ a b. by_cases a b (λ h e. number_greater b a h ∙ sym (ap ordering_reverse e)) (λ h e. number_equal b a (sym h) ∙ sym (ap ordering_reverse e)) (λ h e. number_less b a h ∙ sym (ap ordering_reverse e));
  itself = λ a. number_equal a a refl;
  same = λ a b e. by_cases a b (λ h f. cc) (λ h f. h) (λ h f. cc);
  climbs = λ a b d e f. number_less a d (omega (arith, less_number a b e, less_number b d f));
}

-- signed numbers: those below 0 compare the other way round by their distance from -1
signed_exchanged : (a b : ℤ) → by_signed b a ≡ ordering_reverse (by_signed a b)
signed_exchanged (pos a) (pos b) = by_number_is_total.exchanged a b
signed_exchanged (pos a) (negsuc b) = refl
signed_exchanged (negsuc a) (pos b) = refl
signed_exchanged (negsuc a) (negsuc b) = by_number_is_total.exchanged b a

signed_itself : (a : ℤ) → by_signed a a ≡ Equal
signed_itself (pos a) = by_number_is_total.itself a
signed_itself (negsuc a) = by_number_is_total.itself a

signed_same : (a b : ℤ) → by_signed a b ≡ Equal → a ≡ b
signed_same (pos a) (pos b) e = ap pos (by_number_is_total.same a b e)
signed_same (pos a) (negsuc b) e = cc
signed_same (negsuc a) (pos b) e = cc
signed_same (negsuc a) (negsuc b) e = ap negsuc (sym (by_number_is_total.same b a e))

signed_climbs : (a b d : ℤ) → by_signed a b ≡ Less → by_signed b d ≡ Less → by_signed a d ≡ Less
signed_climbs (pos a) (pos b) (pos d) e f = by_number_is_total.climbs a b d e f
signed_climbs (pos a) (pos b) (negsuc d) e f = f
signed_climbs (pos a) (negsuc b) d e f = cc
signed_climbs (negsuc a) (pos b) (pos d) e f = refl
signed_climbs (negsuc a) (pos b) (negsuc d) e f = cc
signed_climbs (negsuc a) (negsuc b) (pos d) e f = refl
signed_climbs (negsuc a) (negsuc b) (negsuc d) e f = by_number_is_total.climbs d b a f e

pub by_signed_is_total : Total by_signed
by_signed_is_total = record { exchanged = signed_exchanged; itself = signed_itself; same = signed_same; climbs = signed_climbs }

-- bytes
bytes_exchanged : (a b : List ℕ) → by_bytes b a ≡ ordering_reverse (by_bytes a b)
bytes_exchanged [] [] = refl
bytes_exchanged [] (y ∷ ys) = refl
bytes_exchanged (x ∷ xs) [] = refl
bytes_exchanged (x ∷ xs) (y ∷ ys) = then_reversed (by_number x y) (by_number y x) (by_bytes xs ys) (by_bytes ys xs) (by_number_is_total.exchanged x y) (bytes_exchanged xs ys)

bytes_itself : (a : List ℕ) → by_bytes a a ≡ Equal
bytes_itself [] = refl
bytes_itself (x ∷ xs) = ap (λ o. ordering_then o (by_bytes xs xs)) (by_number_is_total.itself x) ∙ bytes_itself xs

bytes_same : (a b : List ℕ) → by_bytes a b ≡ Equal → a ≡ b
bytes_same [] [] e = refl
bytes_same [] (y ∷ ys) e = cc
bytes_same (x ∷ xs) [] e = cc
bytes_same (x ∷ xs) (y ∷ ys) e =
    let both = then_same by_number_is_total x y (by_bytes xs ys) e in
    λ i. both.0 i ∷ bytes_same xs ys both.1 i

bytes_climbs : (a b d : List ℕ) → by_bytes a b ≡ Less → by_bytes b d ≡ Less → by_bytes a d ≡ Less
bytes_climbs [] [] [] e f = e
bytes_climbs [] [] (z ∷ zs) e f = f
bytes_climbs [] (y ∷ ys) [] e f = cc
bytes_climbs [] (y ∷ ys) (z ∷ zs) e f = refl
bytes_climbs (x ∷ xs) [] [] e f = e
bytes_climbs (x ∷ xs) [] (z ∷ zs) e f = cc
bytes_climbs (x ∷ xs) (y ∷ ys) [] e f = f
bytes_climbs (x ∷ xs) (y ∷ ys) (z ∷ zs) e f =
    then_climbs by_number_is_total x y z (by_bytes xs ys) (by_bytes ys zs) (by_bytes xs zs) (bytes_climbs xs ys zs) e f

-- byte by byte is first by the first byte, then by the rest
pub by_bytes_is_total : Total by_bytes
by_bytes_is_total = record { exchanged = bytes_exchanged; itself = bytes_itself; same = bytes_same; climbs = bytes_climbs }

-- two parts of a thing, each with its order
module _ {X Y Z : Type 0} {first : X → X → Ordering} {second : Y → Y → Ordering} (one : Total first) (two : Total second) (f : Z → X) (g : Z → Y) where
  pub parts_exchanged : (a b : Z) → ordering_then (first (f b) (f a)) (second (g b) (g a)) ≡ ordering_reverse (ordering_then (first (f a) (f b)) (second (g a) (g b)))
  parts_exchanged a b =
      then_reversed (first (f a) (f b)) (first (f b) (f a)) (second (g a) (g b)) (second (g b) (g a)) (one.exchanged (f a) (f b)) (two.exchanged (g a) (g b))

  pub parts_itself : (a : Z) → ordering_then (first (f a) (f a)) (second (g a) (g a)) ≡ Equal
  parts_itself a = ap (λ o. ordering_then o (second (g a) (g a))) (one.itself (f a)) ∙ two.itself (g a)

  pub parts_same : (a b : Z) → ordering_then (first (f a) (f b)) (second (g a) (g b)) ≡ Equal → (f a ≡ f b) × (g a ≡ g b)
  parts_same a b e =
      let both = then_same one (f a) (f b) (second (g a) (g b)) e in
      (both.0, two.same (g a) (g b) both.1)

  pub parts_climb : (a b d : Z) → ordering_then (first (f a) (f b)) (second (g a) (g b)) ≡ Less → ordering_then (first (f b) (f d)) (second (g b) (g d)) ≡ Less → ordering_then (first (f a) (f d)) (second (g a) (g d)) ≡ Less
  parts_climb a b d =
      then_climbs one (f a) (f b) (f d) (second (g a) (g b)) (second (g b) (g d)) (second (g a) (g d)) (two.climbs (g a) (g b) (g d))
