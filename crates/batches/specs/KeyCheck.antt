-- The check of a batch against a key kind, which needs no index: its kind code, then its keys.
use Rattle.std.specs.Prelude.{ℕ, suc, Bool, true, ◌&&◌, List, [], ◌∷◌, Some, None, Option, ◌==◌}
use Rattle.refusals.specs.Refusals.{Answer, Accepted, wants, and_then}
use Rattle.keys.specs.Kinds.{Kind, Field, below}
use Rattle.batches.specs.Layout.{Row}

-- a key above the one of the row before, if there is one
abbrev pub above : Kind → Option Field → Field → Bool
above kind None key = true
above kind (Some before) key = below kind before key

-- the first row whose key is unlawful or not above the one before
abbrev pub keys_answer : Kind → (row : ℕ) → (before : Option Field) → List Row → Answer Unit
keys_answer kind row before [] = Accepted tt
keys_answer kind row before (first ∷ rows) =
    and_then (wants (kind.lawful first.key && above kind before first.key) 4 row) (keys_answer kind (suc row) (Some first.key) rows)

abbrev pub kind_and_keys_answer : Kind → (code : ℕ) → List Row → Answer Unit
kind_and_keys_answer kind code rows = and_then (wants (code == kind.code) 3 0) (keys_answer kind 0 None rows)
