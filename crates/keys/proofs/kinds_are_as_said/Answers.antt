use Rattle.keys.specs.WordLaws.{word_from_lawful, lawful_from_word}
use Rattle.keys.specs.AccountDayLaws.{account_day_from_lawful, lawful_from_account_day}
use Rattle.keys.proofs.EveryDay.{every_account_and_day}
use Rattle.keys.proofs.OrdersSaid.{words_by_first_difference, accounts_then_days}
use Rattle.keys.proofs.Worked.{worked_comparisons}
use Rattle.keys.proofs.kinds_are_as_said.Goals as goal

pub returns-clause-kind_1_is_exactly_words : goal.returns-clause-kind_1_is_exactly_words
returns-clause-kind_1_is_exactly_words c = λ f. (word_from_lawful f, lawful_from_word f)

pub returns-clause-kind_1_goes_by_the_first_difference : goal.returns-clause-kind_1_goes_by_the_first_difference
returns-clause-kind_1_goes_by_the_first_difference c = words_by_first_difference

pub returns-clause-kind_2_is_exactly_accounts_and_days : goal.returns-clause-kind_2_is_exactly_accounts_and_days
returns-clause-kind_2_is_exactly_accounts_and_days c = λ f. (account_day_from_lawful f, lawful_from_account_day f)

pub returns-clause-kind_2_holds_every_account_and_day : goal.returns-clause-kind_2_holds_every_account_and_day
returns-clause-kind_2_holds_every_account_and_day c = every_account_and_day

pub returns-clause-kind_2_goes_by_account_and_then_by_day : goal.returns-clause-kind_2_goes_by_account_and_then_by_day
returns-clause-kind_2_goes_by_account_and_then_by_day c = accounts_then_days

pub returns-clause-worked_comparisons_come_out : goal.returns-clause-worked_comparisons_come_out
returns-clause-worked_comparisons_come_out c = worked_comparisons
