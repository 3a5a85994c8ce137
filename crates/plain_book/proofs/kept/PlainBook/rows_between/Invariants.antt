use Rattle.std.proofs.Common.{◌≡◌, take, vec_items}
use Rattle.book.specs.Books.{Sorted}
use Rattle.book.specs.Entries.{book_of}
use Rattle.plain_book.specs.Accounts.{entries_of}
use Rattle.plain_book.specs.Kept.{entries_in}
use Rattle.plain_book.proofs.Listings.{bytes_listed}
use Rattle.plain_book.proofs.kept.PlainBook.rows_between.Given as goal

abbrev pub invariant-loop-account : goal.invariant-loop-account
invariant-loop-account g l = Sorted g.K.KeyKind.kind (entries_in l.self) → vec_items l.all ≡ bytes_listed g.K.KeyKind.kind l.first.field.now l.second.field.now (book_of (entries_of (take l.account-index l.account-items)))
