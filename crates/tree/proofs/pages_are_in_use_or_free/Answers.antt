use Rattle.std.proofs.Common.{refl}
use Rattle.tree.proofs.Highest.{in_use_or_free}
use Rattle.tree.proofs.pages_are_in_use_or_free.Goals as goal

pub returns : goal.returns
returns c = record { is_true = refl; header_nodes_and_records_are_in_use = in_use_or_free }
