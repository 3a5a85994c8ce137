-- The worked comparisons, computed.
use Rattle.std.proofs.Common.{pos, negsuc, codes, refl}
use Rattle.numbers.specs.BigEndian.{number_at}
use Rattle.keys.specs.Words.{padded, letters_then_zeros}
use Rattle.keys.specs.AccountDays.{account_day, account_day_zeros}
use Rattle.keys.specs.BuiltIn.{word_kind, account_day_kind}
use Rattle.keys.specs.Worked.{Rises, WorkedComparisons}

pub rent_rents : Rises word_kind (padded (codes "rent")) (padded (codes "rents"))
unfolding letters_then_zeros
rent_rents = record { first_is_lawful = refl; second_is_lawful = refl; is_below = refl }

pub ten_nine : Rises word_kind (padded (codes "10")) (padded (codes "9"))
unfolding letters_then_zeros
ten_nine = record { first_is_lawful = refl; second_is_lawful = refl; is_below = refl }

pub day_before : Rises account_day_kind (account_day 400 (negsuc 0)) (account_day 400 (pos 0))
unfolding account_day_zeros number_at
day_before = record { first_is_lawful = refl; second_is_lawful = refl; is_below = refl }

pub account_first : Rises account_day_kind (account_day 400 (pos 0)) (account_day 401 (negsuc 4))
unfolding account_day_zeros number_at
account_first = record { first_is_lawful = refl; second_is_lawful = refl; is_below = refl }

pub worked_comparisons : WorkedComparisons
worked_comparisons = record { rent_below_rents = rent_rents; ten_below_nine_as_words = ten_nine; day_before_below_day_0 = day_before; lower_account_below_whatever_day = account_first }
