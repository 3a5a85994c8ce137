use Rattle.std.proofs.Common.{◌<◌, rules}
use Rattle.std.proofs.Math.Seq.{take-set-lt}
use Rattle.nodes.proofs.few.Few.set.Goals as goal

pub returns-clause-items : goal.returns-clause-items
returns-clause-items g c =
    let few = c.args.self.now in
    let within : c.args.index < few.count = search rules in
    take-set-lt few.count few.places c.args.index c.args.value within
