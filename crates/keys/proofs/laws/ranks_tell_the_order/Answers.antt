use Rattle.keys.proofs.Ranks.{ranks_tell}
use Rattle.keys.proofs.laws.ranks_tell_the_order.Goals as goal

pub returns : goal.returns
returns g c = record { holds = ranks_tell g.K.KeyKind.kind }
