use Rattle.std.proofs.Common.{refl}
use Rattle.book.proofs.Examples.{worked_postings}
use Rattle.book.proofs.worked_postings_hold.Goals as goal

pub returns : goal.returns
returns c = record { is_true = refl; worked_postings = worked_postings }
