use Rattle.std.proofs.Common.{◌∙◌, subst, sym}
use Rattle.std.proofs.lemmas.Result.{on_ok_weaker}
use Rattle.book.specs.Books.{Sorted}
use Rattle.book.specs.Entries.{paged}
use Rattle.book.specs.Merging.{applied}
use Rattle.plain_book.specs.Accounts.{entries_of}
use Rattle.plain_book.proofs.Places.{lifted_sorted, changed_lifted, changed_new, changed_sorted_here, either_way}
use Rattle.plain_book.proofs.kept.PlainBook.take_line.Goals as goal

pub returns-in_err-account-in-Ok-clause-rising : goal.returns-in_err-account-in-Ok-clause-rising
returns-in_err-account-in-Ok-clause-rising g c sorted =
    lifted_sorted g.K.KeyKind.kind c.args.key.now.field.now c.args.key.now.is_lawful c.args.self.now.accounts.items sorted c.in-Ok.at (c.in-Ok.ensures.stands sorted) c.remove.new.self.items c.remove.ensures.items

pub returns-in_ok-account-in-Ok-clause-taken : goal.returns-in_ok-account-in-Ok-clause-taken
returns-in_ok-account-in-Ok-clause-taken g c sorted =
    on_ok_weaker c.put_at.result
    (λ e. e ∙ changed_lifted g.K.KeyKind.kind c.args.key.now.field.now c.args.key.now.is_lawful c.args.self.now.accounts.items sorted c.in-Ok.at (c.in-Ok.ensures.stands sorted) c.remove.new.self.items c.remove.ensures.items
    (applied paged c.args.line.sign c.args.line.number) c.remove.result c.in_ok-account-in-Ok.account c.remove.ensures.value c.in_ok-account-in-Ok.ensures)
    c.put_at.ensures.put

pub returns-in_ok-account-in-Ok-clause-rising : goal.returns-in_ok-account-in-Ok-clause-rising
returns-in_ok-account-in-Ok-clause-rising g c sorted =
    let kind = g.K.KeyKind.kind in
    let key = c.args.key.now.field.now in
    let accounts = c.args.self.now.accounts.items in
    let at = c.in-Ok.at in
    let stands = c.in-Ok.ensures.stands sorted in
    let f = applied paged c.args.line.sign c.args.line.number in
    let lifted = c.remove.new.self.items in
    let changed = changed_lifted kind key c.args.key.now.is_lawful accounts sorted at stands lifted c.remove.ensures.items f c.remove.result c.in_ok-account-in-Ok.account c.remove.ensures.value c.in_ok-account-in-Ok.ensures in
    either_way c.put_at.result c.put_at.ensures.put c.put_at.ensures.out_of_memory
    (λ e. changed_sorted_here kind key c.args.key.now.is_lawful accounts sorted at f (entries_of c.put_at.new.accounts.items) (e ∙ changed))
    (λ e. subst (λ xs. Sorted kind (entries_of xs)) (sym e) (lifted_sorted kind key c.args.key.now.is_lawful accounts sorted at stands lifted c.remove.ensures.items))

pub returns-in_ok-account-in-Err-clause-taken : goal.returns-in_ok-account-in-Err-clause-taken
returns-in_ok-account-in-Err-clause-taken g c sorted =
    on_ok_weaker c.put_at-in-Err.result
    (λ e. e ∙ changed_new g.K.KeyKind.kind c.args.key.now.field.now c.args.key.now.is_lawful c.args.self.now.accounts.items sorted c.in-Err.at
    (applied paged c.args.line.sign c.args.line.number) c.in_ok-bare-in-Err.field-0 c.in_ok-account-in-Err.account (c.in-Err.ensures.absent sorted) c.in_ok-bare-in-Err.ensures c.in_ok-account-in-Err.ensures)
    c.put_at-in-Err.ensures.put

pub returns-in_ok-account-in-Err-clause-rising : goal.returns-in_ok-account-in-Err-clause-rising
returns-in_ok-account-in-Err-clause-rising g c sorted =
    let kind = g.K.KeyKind.kind in
    let key = c.args.key.now.field.now in
    let accounts = c.args.self.now.accounts.items in
    let at = c.in-Err.at in
    let f = applied paged c.args.line.sign c.args.line.number in
    let changed = changed_new kind key c.args.key.now.is_lawful accounts sorted at f c.in_ok-bare-in-Err.field-0 c.in_ok-account-in-Err.account (c.in-Err.ensures.absent sorted) c.in_ok-bare-in-Err.ensures c.in_ok-account-in-Err.ensures in
    either_way c.put_at-in-Err.result c.put_at-in-Err.ensures.put c.put_at-in-Err.ensures.out_of_memory
    (λ e. changed_sorted_here kind key c.args.key.now.is_lawful accounts sorted at f (entries_of c.put_at-in-Err.new.accounts.items) (e ∙ changed))
    (λ e. subst (λ xs. Sorted kind (entries_of xs)) (sym e) sorted)
