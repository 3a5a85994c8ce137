use Rattle.std.proofs.Common.{refl}
use Rattle.calls.proofs.Worked.{worked_examples}
use Rattle.calls.proofs.worked_examples_hold.Goals as goal

pub returns : goal.returns
returns c = record { is_true = refl; worked_examples = worked_examples }
