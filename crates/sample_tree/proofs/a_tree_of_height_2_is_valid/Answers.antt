use Rattle.std.proofs.Common.{refl}
use Rattle.sample_tree.proofs.Pictured.{image_is_valid}
use Rattle.sample_tree.proofs.a_tree_of_height_2_is_valid.Goals as goal

pub returns : goal.returns
returns c = record { is_true = refl; the_image_is_valid = image_is_valid }
