use Rattle.std.proofs.Common.{ap, ◌∙◌}
use Rattle.cache.specs.declared.held.Mark.TheVariants.{Dirty}
use Rattle.cache.specs.Holding.{all_apart}
use Rattle.cache.proofs.Holdings.{pages_set}
use Rattle.cache.proofs.Cache.put.Goals as goal

pub invariant_of-self : goal.invariant_of-self
invariant_of-self g c =
    let self = c.args.self.now in
    let set = pages_set self.held.items c.deref_mut.result.now c.args.place (record { held = c.args.held; mark = Dirty }) c.deref_mut.ensures.value in
    record { goes_round = self.goes_round; holds_none_twice = ap all_apart set ∙ c.requires.is_held_nowhere_else }

pub returns-clause-holds_it_there : goal.returns-clause-holds_it_there
returns-clause-holds_it_there g c = pages_set c.args.self.now.held.items c.deref_mut.result.now c.args.place (record { held = c.args.held; mark = Dirty }) c.deref_mut.ensures.value
