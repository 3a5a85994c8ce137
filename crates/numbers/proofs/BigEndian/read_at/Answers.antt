use Rattle.std.proofs.Common.{◌∙◌}
use Rattle.numbers.proofs.Reading.{number_from}
use Rattle.numbers.proofs.BigEndian.read_at.Goals as goal

pub returns : goal.returns
returns g c = record {
  is_the_number_there = rw c.min.ensures at c.read_front.ensures.is_the_number_there ∙ number_from g.Self.BigEndian.WIDTH c.args.bytes.now c.args.at;
}
