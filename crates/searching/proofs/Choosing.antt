-- The child for a key, row by row. Assumes nothing.
use Rattle.std.proofs.Common.{◌≡◌, ℕ, zero, suc, ◌+◌, ◌<◌, ◌≤◌, Bool, true, false, cond, ◌&&◌, List, [], ◌∷◌, map, length, get_or, take, drop, Some, None, Option, sym, refl, ap, ◌∙◌, subst, add-one, arith, drop-cons}
use Rattle.std.specs.List.{AllByRecursion}
use Rattle.std.proofs.lemmas.List.{length-map, length-take-le, get_or-take, get_or-map, drop_all}
use Rattle.keys.specs.Kinds.{Kind, Field, below}
use Rattle.nodes.specs.Layout.{InnerRow, InnerPage}
use Rattle.searching.specs.Descents.{child_for}

-- what an element of a list's front is, and what comes after it
pub taken_there : {X Y : Type 0} (f : X → Y) (xs : List X) (count i : ℕ) (d : X) → i < count → count ≤ length xs → drop i (map f (take count xs)) ≡ f (get_or xs i d) ∷ drop (i + 1) (map f (take count xs))
taken_there f xs count i d h fits =
    let long : length (take count xs) ≡ count = length-take-le count xs fits in
    let within : i < length (take count xs) = omega arith in
    let mapped_long : length (map f (take count xs)) ≡ length (take count xs) = length-map (take count xs) f in
    let within_map : i < length (map f (take count xs)) = omega arith in
    let element : get_or (map f (take count xs)) i (f d) ≡ f (get_or xs i d) = get_or-map f (take count xs) i d (f d) within ∙ ap f (get_or-take count xs i d h) in
    drop-cons (map f (take count xs)) i (f d) within_map ∙ (ap (λ y. y ∷ drop (suc i) (map f (take count xs))) element ∙ ap (λ n. f (get_or xs i d) ∷ drop n (map f (take count xs))) (sym (add-one i)))

pub length_taken : {X Y : Type 0} (f : X → Y) (xs : List X) (count : ℕ) → count ≤ length xs → length (map f (take count xs)) ≡ count
length_taken f xs count fits = length-map (take count xs) f ∙ length-take-le count xs fits

-- what an element of a list means, and what comes after it
pub meant_there : {X Y : Type 0} (f : X → Y) (xs ys : List X) (i : ℕ) (x : X) → xs ≡ ys → i < length xs → x ≡ get_or xs i x → drop i (map f ys) ≡ f x ∷ drop (i + 1) (map f ys)
meant_there f xs ys i x same h is =
    let within : i < length (map f xs) = let l = length-map xs f in omega arith in
    let element : get_or (map f xs) i (f x) ≡ f x = get_or-map f xs i x (f x) h ∙ ap f (sym is) in
    rw (← same)
    (drop-cons (map f xs) i (f x) within ∙ (ap (λ y. y ∷ drop (suc i) (map f xs)) element ∙ ap (λ n. f x ∷ drop n (map f xs)) (sym (add-one i))))

pub all_there : {Y : Type 0} (P : Y → Type 0) (ys rest : List Y) (i : ℕ) (y : Y) → AllByRecursion P ys → drop i ys ≡ y ∷ rest → P y
all_there P [] rest zero y all e = absurd (let z : ◌≡◌ {A = ℕ} 0 1 = cc in omega arith)
all_there P [] rest (suc i) y all e = absurd (let z : ◌≡◌ {A = ℕ} 0 1 = cc in omega arith)
all_there P (x ∷ xs) rest zero y all e = let same : x ≡ y = cc in subst P same all.0
all_there P (x ∷ xs) rest (suc i) y all e = all_there P xs rest i y all.1 e

-- the first rows are passed: what is left to choose from has the child chosen so far in front
pub record Chosen (kind : Kind) (key : Field) (node : InnerPage) (i child : ℕ) : Type 0 where
  pub as_from_the_start : kind.lawful key ≡ true → AllByRecursion (λ (row : InnerRow). kind.lawful row.key ≡ true) node.rows
      → child_for kind key child (drop i node.rows) ≡ child_for kind key node.first node.rows

pub chosen_none : (kind : Kind) (key : Field) (node : InnerPage) → Chosen kind key node 0 node.first
chosen_none kind key node = record { as_from_the_start = λ lk all. refl }

both_true : (a b : Bool) → a ≡ true → b ≡ true → (a && b) ≡ true
both_true true b e f = f
both_true false b e f = absurd (let z : ◌≡◌ {A = ℕ} 0 1 = cc in omega arith)

module _ (kind : Kind) (key : Field) (node : InnerPage) (i child : ℕ) (row : InnerRow) (chosen : Chosen kind key node i child) (there : drop i node.rows ≡ row ∷ drop (i + 1) node.rows) (answer : Option Bool) (asked : answer ≡ cond (kind.lawful key && kind.lawful row.key) (Some (below kind key row.key)) None) where
  answered : kind.lawful key ≡ true → AllByRecursion (λ (row : InnerRow). kind.lawful row.key ≡ true) node.rows → answer ≡ Some (below kind key row.key)
  answered lk all = asked ∙ rw (both_true (kind.lawful key) (kind.lawful row.key) lk (all_there (λ (row : InnerRow). kind.lawful row.key ≡ true) node.rows (drop (i + 1) node.rows) i row all there))

  opened : kind.lawful key ≡ true → AllByRecursion (λ (row : InnerRow). kind.lawful row.key ≡ true) node.rows → cond (below kind key row.key) child (child_for kind key row.child (drop (i + 1) node.rows)) ≡ child_for kind key node.first node.rows
  opened lk all = ap (child_for kind key child) (sym there) ∙ chosen.as_from_the_start lk all

  pub never_unanswered : answer ≡ None → kind.lawful key ≡ true → AllByRecursion (λ (row : InnerRow). kind.lawful row.key ≡ true) node.rows → ⊥
  never_unanswered e lk all = let f : Some (below kind key row.key) ≡ None = sym (answered lk all) ∙ e in let z : ◌≡◌ {A = ℕ} 0 1 = cc in omega arith

  pub stops : answer ≡ Some true → kind.lawful key ≡ true → AllByRecursion (λ (row : InnerRow). kind.lawful row.key ≡ true) node.rows → child ≡ child_for kind key node.first node.rows
  stops e lk all =
      let f : Some (below kind key row.key) ≡ Some true = sym (answered lk all) ∙ e in
      let is : below kind key row.key ≡ true = cc in
      sym (ap (λ b. cond b child (child_for kind key row.child (drop (i + 1) node.rows))) is) ∙ opened lk all

  pub goes_on : answer ≡ Some false → Chosen kind key node (i + 1) row.child
  goes_on e =
      record {
        as_from_the_start = λ lk all.
            let f : Some (below kind key row.key) ≡ Some false = sym (answered lk all) ∙ e in
            let is : below kind key row.key ≡ false = cc in
            sym (ap (λ b. cond b child (child_for kind key row.child (drop (i + 1) node.rows))) is) ∙ opened lk all;
      }

pub ends : (kind : Kind) (key : Field) (node : InnerPage) (i child : ℕ) → Chosen kind key node i child → length node.rows ≤ i → kind.lawful key ≡ true → AllByRecursion (λ (row : InnerRow). kind.lawful row.key ≡ true) node.rows → child ≡ child_for kind key node.first node.rows
ends kind key node i child chosen past lk all = ap (child_for kind key child) (sym (drop_all i node.rows past)) ∙ chosen.as_from_the_start lk all
