use Rattle.std.proofs.Common.{refl}
use Rattle.book_listing.proofs.Wholly.{lists_all}
use Rattle.book_listing.proofs.texts_list_all.Goals as goal

pub returns : goal.returns
returns c = record { is_true = refl; all_rows_are_the_listing_of_all_words = lists_all }
