use Rattle.std.proofs.Common.{refl}
use Rattle.calls.proofs.Joining.{lookups_show}
use Rattle.calls.proofs.lookups_show_what_was_counted.Goals as goal

pub returns : goal.returns
returns c = record { is_true = refl; lookups_show_the_counted = lookups_show }
