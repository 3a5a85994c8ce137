use Rattle.std.proofs.Common.{◌≡◌, ◌<◌, ◌≤◌, length, rules}
use Rattle.nodes.proofs.Placing.{taken_out}
use Rattle.nodes.proofs.few.Few.remove.Goals as goal

pub returns-clause-items : goal.returns-clause-items
returns-clause-items g c =
    let few = c.args.self.now in
    let counted : c.len-len.result ≡ few.count = search rules in
    let within : c.args.index < few.count = search rules in
    let room : few.count ≤ length few.places = search rules in
    rw (c.copy_within.ensures.after, counted) (taken_out few.places few.count c.args.index within room)
