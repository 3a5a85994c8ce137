-- The promise over any list of calls: each call's own relation from state to state, and the accepted batches stand at the first state and after each call.
use Rattle.std.specs.Prelude.{◌≡◌, ℕ, true, List, [], ◌∷◌}
use Rattle.refusals.specs.Refusals.{Answer, Accepted, Refused, on_accepted}
use Rattle.keys.specs.Kinds.{Kind, Field}
use Rattle.calls.specs.declared.answers.Looked.{Looked}
use Rattle.calls.specs.declared.answers.RowsListed.{RowsListed}
use Rattle.calls.specs.States.{State}
use Rattle.calls.specs.Making.{Makes}
use Rattle.calls.specs.Opening.{Opens}
use Rattle.calls.specs.Lookups.{Looks}
use Rattle.calls.specs.Listings.{Lists}
use Rattle.calls.specs.Settling.{Settles}
use Rattle.calls.specs.Merges.{MergesBytes}
use Rattle.calls.specs.Standing.{AcceptedBatches, Standing, ShowsTheCounted}

-- a call with what it was given, and what it answered and left in its list or buffer
pub data Event : Type 0 where
  Making : (answer : Answer Unit) → Event
  Opening : (marks : List ℕ) (answer : Answer Unit) (marks_left : List ℕ) → Event
  Merging : (bytes : List ℕ) (answer : Answer ℕ) → Event
  LookingUp : (key : Field) (list : List ℕ) (answer : Answer Looked) (list_after : List ℕ) → Event
  Listing : (first second : Field) (skip : ℕ) (buffer : List ℕ) (answer : Answer RowsListed) (buffer_after : List ℕ) → Event
  Settling : Event

-- what a call may do to a state: the relation that stands on its method
abbrev pub Step : Kind → State → Event → State → Type 0
Step kind before (Making answer) after = Makes kind before answer after
Step kind before (Opening marks answer marks_left) after = Opens kind before marks answer after marks_left
Step kind before (Merging bytes answer) after = MergesBytes kind before bytes answer after
Step kind before (LookingUp key list answer list_after) after = Looks kind before key list answer after list_after
Step kind before (Listing first second skip buffer answer buffer_after) after = Lists kind before first second skip buffer answer after buffer_after
Step kind before Settling after = Settles before after

-- the accepted batches after a call: a merge that was accepted is the latest
abbrev pub if_accepted : (bytes : List ℕ) → Answer ℕ → AcceptedBatches → AcceptedBatches
if_accepted bytes (Accepted keys) batches = bytes ∷ batches
if_accepted bytes (Refused number place) batches = batches

abbrev pub accepted_after : Event → AcceptedBatches → AcceptedBatches
accepted_after (Making answer) batches = on_accepted answer [] batches
accepted_after (Opening marks answer marks_left) batches = batches
accepted_after (Merging bytes answer) batches = if_accepted bytes answer batches
accepted_after (LookingUp key list answer list_after) batches = batches
accepted_after (Listing first second skip buffer answer buffer_after) batches = batches
accepted_after Settling batches = batches

-- what a call shows of the accepted lines: a lookup of a lawful key is accepted, and shows what they come to
abbrev pub Shows : Kind → AcceptedBatches → Event → Type 0
Shows kind batches (Making answer) = Unit {0}
Shows kind batches (Opening marks answer marks_left) = Unit {0}
Shows kind batches (Merging bytes answer) = Unit {0}
Shows kind batches (LookingUp key list answer list_after) = kind.lawful key ≡ true → (looked : Looked) × (answer ≡ Accepted looked) × ShowsTheCounted kind batches key list looked list_after
Shows kind batches (Listing first second skip buffer answer buffer_after) = Unit {0}
Shows kind batches Settling = Unit {0}

-- the states that calls lead through, each with what stands there
abbrev pub Leads : Kind → AcceptedBatches → State → List Event → (states : List State) → Type 0
Leads kind batches state [] states = (states ≡ []) × Standing kind batches state
Leads kind batches state (event ∷ events) [] = ⊥
Leads kind batches state (event ∷ events) (next ∷ states) =
    Standing kind batches state × Step kind state event next × Shows kind batches event × Leads kind (accepted_after event batches) next events states

-- One step: whatever stood before a call stands after it, with the batch that it accepted.
abbrev pub StandingIsCarriedOn : Type 0
StandingIsCarriedOn =
    (kind : Kind) (batches : AcceptedBatches) (before after : State) (event : Event) → Standing kind batches before → Step kind before event after → Standing kind (accepted_after event batches) after
