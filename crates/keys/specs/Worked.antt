-- Worked comparisons, as facts of the two kinds.
use Rattle.std.specs.Prelude.{◌≡◌, true, pos, negsuc, codes}
use Rattle.keys.specs.Kinds.{Field, Kind, below}
use Rattle.keys.specs.Words.{padded}
use Rattle.keys.specs.AccountDays.{account_day}
use Rattle.keys.specs.BuiltIn.{word_kind, account_day_kind}

-- two lawful fields, the first below the second
pub record Rises (kind : Kind) (a b : Field) : Type 0 where
  pub first_is_lawful : kind.lawful a ≡ true
  pub second_is_lawful : kind.lawful b ≡ true
  pub is_below : below kind a b ≡ true

pub record WorkedComparisons : Type 0 where
  pub rent_below_rents : Rises word_kind (padded (codes "rent")) (padded (codes "rents"))
  pub ten_below_nine_as_words : Rises word_kind (padded (codes "10")) (padded (codes "9"))
  pub day_before_below_day_0 : Rises account_day_kind (account_day 400 (negsuc 0)) (account_day 400 (pos 0))
  pub lower_account_below_whatever_day : Rises account_day_kind (account_day 400 (pos 0)) (account_day 401 (negsuc 4))
