use Rattle.std.proofs.Common.{◌≡◌, ◌<◌, ◌≤◌, length, ◌∙◌, rules}
use Rattle.nodes.proofs.Placing.{put_in_front}
use Rattle.nodes.proofs.few.Few.insert.Goals as goal

pub returns-clause-items : goal.returns-clause-items
returns-clause-items g c =
    let few = c.args.self.now in
    let counted : c.len-len.result ≡ few.count = search rules in
    let within : c.args.index ≤ few.count = search rules in
    let room : few.count < length few.places = search rules in
    c.set.ensures.items ∙ rw (c.copy_within.ensures.after, counted) (put_in_front few.places few.count c.args.index c.args.value within room)
