use Rattle.std.proofs.Common.{None, sym, ap, ◌∙◌, subst, arith}
use Rattle.std.proofs.lemmas.List.{length-map}
use Rattle.book.specs.Books.{Held, Sorted}
use Rattle.book.specs.Entries.{Entry}
use Rattle.plain_book.specs.Accounts.{held_in, entries_of}
use Rattle.plain_book.proofs.Places.{held_at, lawful_at}
use Rattle.plain_book.proofs.Listings.{listed_more}
use Rattle.plain_book.proofs.kept.PlainBook.rows_between.Goals as goal

pub loop-account-preserved : goal.loop-account-preserved
loop-account-preserved g c sorted =
    let kind = g.K.KeyKind.kind in
    let accounts = c.deref-account-items.result.now in
    let i = c.loop-account.account-index in
    let account = c.account-item.result in
    let rising = subst (λ xs. Sorted kind (entries_of xs)) (sym c.deref-account-items.ensures.value) sorted in
    let lawful = sym (ap (λ (h : Held Entry). kind.lawful h.key) (held_at accounts i account c.loop-account-test.true c.account-item.is))
    ∙ lawful_at kind None (entries_of accounts) i rising (omega (arith, c.loop-account-test.true, length-map accounts held_in)) in
    listed_more kind c.args.first.now.field.now c.args.second.now.field.now accounts i account c.loop-account.all.items c.add_if_within.new.all.items c.loop-account-test.true c.account-item.is (c.loop-account.invariant sorted) (c.in_ok-add_if_within.ensures lawful)
