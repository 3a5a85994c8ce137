-- The laws that join the calls: judging and taking are merging, what stands is carried through any list of calls, and lookups show what was counted.
use Rattle.std.specs.Prelude.{◌≡◌, ℕ, ◌≤◌, true, List, [], ◌∷◌, length}
use Rattle.refusals.specs.Refusals.{Answer, Accepted, Refused}
use Rattle.page_store.specs.Meanings.{count_of}
use Rattle.keys.specs.Kinds.{Kind, Field}
use Rattle.calls.specs.declared.answers.Looked.{Looked}
use Rattle.calls.specs.States.{State}
use Rattle.calls.specs.Making.{Makes}
use Rattle.calls.specs.Opening.{Opens}
use Rattle.calls.specs.Lookups.{Looks}
use Rattle.calls.specs.Merges.{Judges, Acceptable, Takes, Merges}
use Rattle.calls.specs.Standing.{AcceptedBatches, Standing, ShowsTheCounted}
use Rattle.calls.specs.Runs.{Event, Step, Leads}

-- A batch that is judged, and then taken unless it was refused, is merged.
pub record JudgedThenTakenIsMerged : Type 0 where
  pub refused_is_merged_with_that_refusal : (kind : Kind) (before after : State) (batch : List ℕ) (number place : ℕ) → Judges kind before batch (Refused number place) after
      → Merges kind before batch (Refused number place) after
  pub accepted_may_be_taken : (kind : Kind) (before after : State) (batch : List ℕ) → Judges kind before batch (Accepted tt) after → Acceptable kind after batch
  pub accepted_then_taken_is_merged : (kind : Kind) (before between after : State) (batch : List ℕ) (keys : ℕ) → Judges kind before batch (Accepted tt) between → Takes kind between batch keys after
      → Merges kind before batch (Accepted keys) after

-- states that calls lead through, one after another
abbrev pub Steps : Kind → State → List Event → (states : List State) → Type 0
Steps kind state [] states = states ≡ []
Steps kind state (event ∷ events) [] = ⊥
Steps kind state (event ∷ events) (next ∷ states) = Step kind state event next × Steps kind next events states

-- What stands at the first state stands, with the batches accepted since, after each call.
abbrev pub StandingLeadsThroughAnyCalls : Type 0
StandingLeadsThroughAnyCalls =
    (kind : Kind) (batches : AcceptedBatches) (state : State) (events : List Event) (states : List State) → Standing kind batches state → Steps kind state events states → Leads kind batches state events states

-- A made index stands for no batches yet.
abbrev pub AMadeIndexStands : Type 0
AMadeIndexStands = (kind : Kind) (before after : State) → count_of before.meaning ≤ 65536 → Makes kind before (Accepted tt) after → Standing kind [] after

-- What stood of an index stands of one that is opened on the same pages.
abbrev pub OpeningFindsWhatStood : Type 0
OpeningFindsWhatStood =
    (kind : Kind) (batches : AcceptedBatches) (earlier before after : State) (marks marks_left : List ℕ)
    → Standing kind batches earlier → before.meaning ≡ earlier.meaning → Opens kind before marks (Accepted tt) after marks_left → Standing kind batches after

abbrev pub OpeningFindsAgain : Type 0
OpeningFindsAgain =
    (kind : Kind) (batches : AcceptedBatches) (earlier before after : State) (marks marks_left : List ℕ) (answer : Answer Unit)
    → Standing kind batches earlier → before.meaning ≡ earlier.meaning → count_of before.meaning ≤ length marks → Opens kind before marks answer after marks_left
    → (answer ≡ Accepted tt) × Standing kind batches after

abbrev pub PagesAndOpennessKeepWhatStands : Type 0
PagesAndOpennessKeepWhatStands =
    (kind : Kind) (batches : AcceptedBatches) (before after : State) → after.meaning ≡ before.meaning → after.is_open ≡ before.is_open → Standing kind batches before → Standing kind batches after

-- A list of calls on a new index.
pub record Performs (kind : Kind) (before : State) (answer : Answer Unit) (made : State) (events : List Event) (states : List State) : Type 0 where
  pub is_made_first : Makes kind before answer made
  pub nothing_is_called_if_refused : (number place : ℕ) → answer ≡ Refused number place → (events ≡ []) × (states ≡ [])
  pub leads_through_all_calls : answer ≡ Accepted tt → Leads kind [] made events states

-- A lookup of a lawful key is accepted, and shows what the accepted lines come to.
abbrev pub LookupsShowTheCounted : Type 0
LookupsShowTheCounted =
    (kind : Kind) (batches : AcceptedBatches) (before after : State) (key : Field) (list list_after : List ℕ) (answer : Answer Looked)
    → Standing kind batches before → kind.lawful key ≡ true → Looks kind before key list answer after list_after
    → (looked : Looked) × (answer ≡ Accepted looked) × ShowsTheCounted kind batches key list looked list_after
