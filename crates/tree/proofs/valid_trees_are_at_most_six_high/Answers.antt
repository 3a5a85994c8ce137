use Rattle.std.proofs.Common.{refl}
use Rattle.tree.proofs.Highest.{seven_levels, at_most_six}
use Rattle.tree.proofs.valid_trees_are_at_most_six_high.Goals as goal

pub returns : goal.returns
returns c = record { is_true = refl; seven_levels_need_65536_leaves = seven_levels; at_most_six = at_most_six }
