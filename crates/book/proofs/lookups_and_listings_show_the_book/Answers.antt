use Rattle.std.proofs.Common.{refl}
use Rattle.book.proofs.Looking.{lookups_fill, listings_fill, listings_show}
use Rattle.book.proofs.lookups_and_listings_show_the_book.Goals as goal

pub returns : goal.returns
returns c = record { is_true = refl; lookups_fill_the_list = lookups_fill; listings_fill_the_buffer = listings_fill; listings_show_the_book = listings_show }
