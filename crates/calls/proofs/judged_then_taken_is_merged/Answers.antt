use Rattle.std.proofs.Common.{refl}
use Rattle.calls.proofs.Joining.{judged_then_taken}
use Rattle.calls.proofs.judged_then_taken_is_merged.Goals as goal

pub returns : goal.returns
returns c = record { is_true = refl; judged_then_taken_is_merged = judged_then_taken }
