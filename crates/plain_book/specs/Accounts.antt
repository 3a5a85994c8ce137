-- What the accounts of an executable book hold.
use Rattle.std.specs.Prelude.{List, map, vec_items}
use Rattle.plain_book.specs.declared.account.Account.{Account}
use Rattle.book.specs.Books.{Held}
use Rattle.book.specs.Entries.{Entry, Entries}

-- the entry of an account
abbrev pub entry_in : Account → Entry
entry_in account = record { inline = vec_items account.inline; records = map vec_items (vec_items account.records) }

abbrev pub held_in : Account → Held Entry
held_in account = record { key = vec_items account.key; value = entry_in account }

-- the entries of accounts
abbrev pub entries_of : List Account → Entries
entries_of accounts = map held_in accounts
