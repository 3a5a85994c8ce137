-- Which entries are listed: none below the first key, and none from the first key above the second on. Assumes nothing.
use Rattle.std.proofs.Common.{◌≡◌, ℕ, Bool, true, false, cond, not, ◌&&◌, List, [], ◌∷◌, ◌++◌, map, Some, None, Option, refl, ap, ◌∙◌, arith}
use Rattle.std.specs.List.{AllByRecursion}
use Rattle.std.proofs.lemmas.Bool.{and_from, and_left, and_right, not_from_true, not_from_false, cond-true, cond-false}
use Rattle.keys.specs.Kinds.{Kind, Field, below}
use Rattle.keys.proofs.Orders.{below_transitive}
use Rattle.book.specs.Looking.{Listed, within}
use Rattle.tree.specs.Trees.{EntryAt}
use Rattle.tree.specs.Valid.{Rise}
use Rattle.std.proofs.lemmas.List.Concat.{flat_map-append}
use Rattle.listing.specs.Walks.{rows_at, listed_at}

abbrev pub keys_at : List EntryAt → List Field
keys_at entries = map (λ (entry : EntryAt). entry.key) entries

-- what two lawful fields are asked for is answered
pub answered : (kind : Kind) (a b : Field) (answer : Option Bool) → kind.lawful a ≡ true → kind.lawful b ≡ true → answer ≡ cond (kind.lawful a && kind.lawful b) (Some (below kind a b)) None → answer ≡ Some (below kind a b)
answered kind a b answer la lb asked = asked ∙ cond-true (kind.lawful a && kind.lawful b) (Some (below kind a b)) None (and_from (kind.lawful a) (kind.lawful b) la lb)

pub some_same : (answer : Option Bool) (a b : Bool) → answer ≡ Some a → answer ≡ Some b → a ≡ b
some_same answer a b e f = cc

pub some_none : (answer : Option Bool) (a : Bool) → answer ≡ Some a → answer ≡ None → ⊥
some_none answer a e f = let z : ◌≡◌ {A = ℕ} 0 1 = cc in omega arith

-- what is lawful is checked
pub unchecked : {X : Type 0} (lawful : Bool) (y : X) → None ≡ cond lawful (Some y) None → lawful ≡ true → ⊥
unchecked true y e is = cc
unchecked false y e is = cc

module _ (kind : Kind) (first second : Field) where
  pub listed_append : (a b : List EntryAt) → listed_at kind first second (a ++ b) ≡ listed_at kind first second a ++ listed_at kind first second b
  listed_append a b = flat_map-append (λ (entry : EntryAt). cond (within kind first second entry.key) (rows_at entry) []) a b

  -- one entry
  pub not_below_first : (entry : EntryAt) → below kind entry.key first ≡ true → cond (within kind first second entry.key) (rows_at entry) [] ≡ []
  not_below_first entry under =
      cond-false (within kind first second entry.key) (rows_at entry) [] (and_left (not (below kind entry.key first)) (not (below kind second entry.key)) (not_from_true (below kind entry.key first) under))

  pub not_above_second : (entry : EntryAt) → below kind second entry.key ≡ true → cond (within kind first second entry.key) (rows_at entry) [] ≡ []
  not_above_second entry over =
      cond-false (within kind first second entry.key) (rows_at entry) [] (and_right (not (below kind entry.key first)) (not (below kind second entry.key)) (not_from_true (below kind second entry.key) over))

  pub between : (entry : EntryAt) → below kind entry.key first ≡ false → below kind second entry.key ≡ false → cond (within kind first second entry.key) (rows_at entry) [] ≡ rows_at entry
  between entry from to =
      cond-true (within kind first second entry.key) (rows_at entry) [] (and_from (not (below kind entry.key first)) (not (below kind second entry.key)) (not_from_false (below kind entry.key first) from) (not_from_false (below kind second entry.key) to))

  -- entries below the first key
  pub below_none : (entries : List EntryAt) → AllByRecursion (λ (key : Field). below kind key first ≡ true) (keys_at entries) → listed_at kind first second entries ≡ []
  below_none [] under = refl
  below_none (entry ∷ entries) under = ap (λ (rows : List Listed). rows ++ listed_at kind first second entries) (not_below_first entry under.0) ∙ below_none entries under.1

  -- past a key above the second
  module _ (ls : kind.lawful second ≡ true) where
    past_none : (key : Field) (entries : List EntryAt) → kind.lawful key ≡ true → below kind second key ≡ true → Rise kind (Some key) (keys_at entries) → listed_at kind first second entries ≡ []
    past_none key [] lk over rise = refl
    past_none key (entry ∷ entries) lk over rise =
        let more = below_transitive kind second key entry.key ls lk rise.0 over rise.1 in
        ap (λ (rows : List Listed). rows ++ listed_at kind first second entries) (not_above_second entry more) ∙ past_none entry.key entries rise.0 more rise.2

    pub later_none : (before : Option Field) (passed : List EntryAt) (entry : EntryAt) (later : List EntryAt) → below kind second entry.key ≡ true → Rise kind before (keys_at (passed ++ (entry ∷ later))) → listed_at kind first second (entry ∷ later) ≡ []
    later_none before [] entry later over rise =
        ap (λ (rows : List Listed). rows ++ listed_at kind first second later) (not_above_second entry over) ∙ past_none entry.key later rise.0 over rise.2
    later_none before (p ∷ passed) entry later over rise = later_none (Some p.key) passed entry later over rise.2

-- rising keys, in parts
pub rise_from_none : (kind : Kind) (before : Option Field) (keys : List Field) → Rise kind before keys → Rise kind None keys
rise_from_none kind before [] rise = tt
rise_from_none kind before (key ∷ keys) rise = (rise.0, refl, rise.2)

pub rise_front : (kind : Kind) (before : Option Field) (a b : List EntryAt) → Rise kind before (keys_at (a ++ b)) → Rise kind before (keys_at a)
rise_front kind before [] b rise = tt
rise_front kind before (entry ∷ a) b rise = (rise.0, rise.1, rise_front kind (Some entry.key) a b rise.2)

pub rise_back : (kind : Kind) (before : Option Field) (a b : List EntryAt) → Rise kind before (keys_at (a ++ b)) → Rise kind None (keys_at b)
rise_back kind before [] b rise = rise_from_none kind before (keys_at b) rise
rise_back kind before (entry ∷ a) b rise = rise_back kind (Some entry.key) a b rise.2
