use Rattle.std.proofs.Common.{refl}
use Rattle.book.proofs.Merges.{postings_are_counted, reversals_restore}
use Rattle.book.proofs.postings_are_counted_and_reversals_restore.Goals as goal

pub returns : goal.returns
returns c = record { is_true = refl; postings_are_counted = postings_are_counted; reversals_restore = reversals_restore }
