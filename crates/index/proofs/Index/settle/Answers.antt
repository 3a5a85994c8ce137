use Rattle.std.proofs.Common.{refl}
use Rattle.calls.specs.States.{state_of}
use Rattle.index.specs.Indexes.{state_over}
use Rattle.calls.proofs.Carrying.{unmoved}
use Rattle.index.proofs.Index.settle.Goals as goal

pub returns-clause-carries_on_what_stands : goal.returns-clause-carries_on_what_stands
returns-clause-carries_on_what_stands g c =
    let before = state_over g.S.PageStore.meaning g.S.PageStore.settled c.args.self.now in
    let after = state_of (g.S.PageStore.meaning c.settle.new.self) c.args.self.now.«open» (g.S.PageStore.settled c.settle.new.self) in
    λ batches standing. unmoved g.K.KeyKind.kind batches before after c.settle.ensures.keeps_the_meaning refl standing
