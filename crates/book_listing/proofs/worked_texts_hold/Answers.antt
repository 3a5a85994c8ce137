use Rattle.std.proofs.Common.{refl}
use Rattle.book_listing.proofs.Examples.{worked_texts}
use Rattle.book_listing.proofs.worked_texts_hold.Goals as goal

pub returns : goal.returns
returns c = record { is_true = refl; worked_texts = worked_texts }
