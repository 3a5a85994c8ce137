use Rattle.std.proofs.Common.{refl}
use Rattle.tree.proofs.Emptiness.{empty_is_one_leaf}
use Rattle.tree.proofs.empty_trees_are_one_leaf.Goals as goal

pub returns : goal.returns
returns c = record { is_true = refl; are_one_leaf = empty_is_one_leaf }
