-- What the orders of the two kinds come to, in other words than their definitions.
use Rattle.std.specs.Prelude.{◌≡◌, ℕ, ◌<◌, ◌⊎◌, take, ◌<ℤ◌, Decides, slice_index, slice_index_or}
use Rattle.keys.specs.Kinds.{Field, below}
use Rattle.keys.specs.Words.{Word}
use Rattle.keys.specs.AccountDays.{account_of, day_of, AccountDay}
use Rattle.keys.specs.BuiltIn.{word_kind, account_day_kind}

-- at the first place where two fields differ the one has the smaller byte
pub record FirstDifference (a b : Field) : Type 0 where
  pub place : ℕ
  pub within : place < 24
  pub same_before : take place a ≡ take place b
  pub less_there : slice_index_or a place 0 < slice_index b place

abbrev pub WordsByFirstDifference : Type 0
WordsByFirstDifference = (a b : Field) → Word a → Word b → Decides (below word_kind a b) (FirstDifference a b)

abbrev pub AccountsThenDays : Type 0
AccountsThenDays =
    (a b : Field) → AccountDay a → AccountDay b → Decides (below account_day_kind a b) ((account_of a < account_of b) ⊎ ((account_of a ≡ account_of b) × (day_of a <ℤ day_of b)))
