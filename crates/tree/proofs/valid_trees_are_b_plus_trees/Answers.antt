use Rattle.std.proofs.Common.{refl}
use Rattle.tree.proofs.Textbook.{valid_is_b_plus}
use Rattle.tree.proofs.valid_trees_are_b_plus_trees.Goals as goal

pub returns : goal.returns
returns c = record { is_true = refl; are_b_plus_trees = valid_is_b_plus }
