use Rattle.std.proofs.Common.{refl}
use Rattle.refusals.specs.Refusals.{answer_of}
use Rattle.calls.specs.States.{state_of}
use Rattle.index.specs.Indexes.{state_over}
use Rattle.calls.specs.Lookups.{Looks}
use Rattle.calls.proofs.Carrying.{unmoved}
use Rattle.calls.proofs.Joining.{lookups_show}
use Rattle.index.proofs.Index.lookup.Goals as goal

pub returns : goal.returns
returns g c =
    let kind = g.K.KeyKind.kind in
    let key = c.args.key.now in
    let list = c.args.list.now in
    let before = state_over g.S.PageStore.meaning g.S.PageStore.settled c.args.self.now in
    let after = state_of (g.S.PageStore.meaning c.lookup.new.store) c.args.self.now.«open» (g.S.PageStore.settled c.lookup.new.store) in
    let looks : Looks kind before key list (answer_of c.lookup.result) after c.lookup.new.list = record { leaves_the_pages = c.lookup.ensures.keeps_the_meaning; leaves_the_openness = refl; refuses_if_not_open = λ shut. cc c.if-not-self.false; looks_up_if_open = λ is. c.lookup.ensures.looks_up } in
    record {
      looks_up = looks;
      shows_what_was_counted = λ batches standing lawful. lookups_show kind batches before after key list c.lookup.new.list (answer_of c.lookup.result) standing lawful looks;
      carries_on_what_stands = λ batches standing. unmoved kind batches before after c.lookup.ensures.keeps_the_meaning refl standing;
    }
