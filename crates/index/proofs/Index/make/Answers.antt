use Rattle.std.proofs.Common.{true, refl}
use Rattle.refusals.specs.Refusals.{Accepted}
use Rattle.calls.specs.States.{state_of}
use Rattle.index.specs.Indexes.{state_over}
use Rattle.calls.specs.Making.{Makes}
use Rattle.calls.proofs.Joining.{made_stands}
use Rattle.index.proofs.Index.make.Goals as goal

pub returns : goal.returns
returns g c =
    let before = state_over g.S.PageStore.meaning g.S.PageStore.settled c.args.self.now in
    let after = state_of (g.S.PageStore.meaning c.make.new.store) true (g.S.PageStore.settled c.make.new.store) in
    let makes : Makes g.K.KeyKind.kind before (Accepted tt) after = record { makes_an_empty_tree = c.in_ok-make.ensures.makes_an_empty_tree; opens_if_accepted = refl } in
    record {
      makes_an_empty_tree = makes;
      stands_for_no_batches_yet = λ accepted. made_stands g.K.KeyKind.kind before after c.make.ensures.pages_are_few makes;
    }
