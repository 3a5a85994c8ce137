use Rattle.std.proofs.Common.{refl}
use Rattle.sample_tree.proofs.Refuted.{changed_images_are_not_valid}
use Rattle.sample_tree.proofs.changed_trees_are_not_valid.Goals as goal

pub returns : goal.returns
returns c = record { is_true = refl; changed_images_are_not_valid = changed_images_are_not_valid }
