use Rattle.std.proofs.Common.{refl}
use Rattle.refusals.proofs.Apart.{tell_apart}
use Rattle.refusals.proofs.number_and_place_tell_refusals_apart.Goals as goal

pub returns : goal.returns
returns c = record { is_true = refl; tell_apart = tell_apart }
