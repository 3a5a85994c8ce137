-- What a contract sees of a `Few`.
use Rattle.std.specs.Prelude.{ℕ, ◌≤◌, List, length, take}
use Rattle.std.proofs.Common.{arith}
use Rattle.std.proofs.lemmas.List.{length-take-le}
use Rattle.nodes.specs.declared.few.Few.{Few}

module _ {T : Type 0} {MOST : ℕ} where
  -- the values, in order
  abbrev pub items : Few T MOST → List T
  items few = take few.count few.places

  -- of any `Few` they are at most `MOST`
  pub at_most : (few : Few T MOST) → length (items few) ≤ MOST
  at_most few = let long = few.has_its_places in let most = few.uses_at_most_its_places in rw (length-take-le few.count few.places (omega arith)) most
