use Rattle.std.proofs.Common.{◌<◌, arith}
use Rattle.std.proofs.ByRecursion.{All-from_get_or}
use Rattle.std.proofs.lemmas.Bool.Decides.{nat_tests}
use Rattle.std.proofs.lemmas.Grind.{common_steps}
use Rattle.keys.specs.AccountDays.{account_day_zeros}
use Rattle.keys.specs.FieldLaws.{test_from_bytes}
use Rattle.keys.proofs.account_and_day.are_account_day_zeros.Goals as goal

pub returns-then-account-ge1 : goal.returns-then-account-ge1
unfolding account_day_zeros
returns-then-account-ge1 c =
    let bytes = test_from_bytes c.args.field.now (All-from_get_or (λ b. b < 256) c.args.field.now 0 (λ i h. (c.type_inv.field i).fits)) in
    record { tells_both = grind (arith, nat_tests, common_steps) }
