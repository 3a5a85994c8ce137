use Rattle.std.proofs.Common.{refl}
use Rattle.tree.proofs.Uniqueness.{entries_are_unique, pages_hold_one_tree}
use Rattle.tree.proofs.entries_that_pages_hold_are_unique.Goals as goal

pub returns : goal.returns
returns c = record { is_true = refl; entries_are_unique = entries_are_unique; pages_hold_one_tree = pages_hold_one_tree }
