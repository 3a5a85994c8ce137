use Rattle.std.proofs.Common.{None, sym, ap, ◌∙◌}
use Rattle.book.specs.Books.{Held}
use Rattle.book.specs.Entries.{Entry}
use Rattle.plain_book.specs.Accounts.{entries_of}
use Rattle.plain_book.proofs.Places.{held_at, value_there, value_absent}
use Rattle.plain_book.proofs.kept.PlainBook.account_there.Goals as goal

pub returns-in-Ok : goal.returns-in-Ok
returns-in-Ok g c sorted =
    let kind = g.K.KeyKind.kind in
    let key = c.args.key.now.field.now in
    let accounts = c.args.self.now.accounts.items in
    let at = c.in-Ok.at in
    sym (value_there kind key c.args.key.now.is_lawful None (entries_of accounts) at sorted (c.in-Ok.ensures.stands sorted)
    ∙ ap (λ (h : Held Entry). h.value) (held_at accounts at c.index.result.now c.in-Ok.ensures.is_a_place c.index.ensures))

pub returns-in-Err : goal.returns-in-Err
returns-in-Err g c sorted = value_absent g.K.KeyKind.kind c.args.key.now.field.now c.args.key.now.is_lawful None (entries_of c.args.self.now.accounts.items) c.in-Err.field-0 sorted (c.in-Err.ensures.absent sorted)
