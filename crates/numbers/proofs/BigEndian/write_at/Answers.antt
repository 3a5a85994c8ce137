use Rattle.numbers.proofs.Writing.{written_from}
use Rattle.numbers.proofs.BigEndian.write_at.Goals as goal

pub returns-clause-is_written_there : goal.returns-clause-is_written_there
returns-clause-is_written_there g c =
    written_from g.Self.BigEndian.WIDTH (g.Self.BigEndian.value c.args.self) c.args.bytes.now c.args.at c.min-from.result c.write_front.new.bytes c.min-from.ensures c.write_front.ensures.is_written_there
