use Rattle.std.proofs.Common.{◌≡◌, ◌++◌, take, vec_items}
use Rattle.std.specs.List.{flat_map}
use Rattle.book.specs.Looking.{rows_under, listed_bytes}
use Rattle.plain_book.proofs.listing.add_rows.Given as goal

abbrev pub invariant-loop-posting : goal.invariant-loop-posting
invariant-loop-posting l = vec_items l.all ≡ vec_items l.initial.all ++ flat_map listed_bytes (rows_under (record { key = vec_items l.account.key; value = take l.posting-index l.posting-items }))
