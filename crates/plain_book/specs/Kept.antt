-- The entries that an executable book keeps.
use Rattle.std.specs.Prelude.{vec_items}
use Rattle.book.specs.Entries.{Entries}
use Rattle.plain_book.specs.declared.kept.PlainBook.{PlainBook}
use Rattle.plain_book.specs.Accounts.{entries_of}

abbrev pub entries_in : PlainBook → Entries
entries_in book = entries_of (vec_items book.accounts)
