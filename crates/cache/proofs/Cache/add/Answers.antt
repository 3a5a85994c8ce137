use Rattle.std.proofs.Common.{ap, ◌∙◌}
use Rattle.cache.specs.Holding.{all_apart, pages_of}
use Rattle.cache.specs.Caching.{held_in}
use Rattle.cache.proofs.Holdings.{pages_push, apart_more}
use Rattle.cache.proofs.Cache.add.Goals as goal

pub invariant_of-self : goal.invariant_of-self
invariant_of-self g c =
    let self = c.args.self.now in
    let more = ap pages_of c.push.ensures.items ∙ pages_push self.held.items (record { held = c.args.held; mark = c.args.mark }) in
    record { goes_round = self.goes_round; holds_none_twice = ap all_apart more ∙ apart_more (held_in self) c.args.held self.holds_none_twice c.requires.is_not_held }
