use Rattle.std.proofs.Common.{◌∙◌, replicate}
use Rattle.std.proofs.lemmas.List.{length-replicate}
use Rattle.numbers.proofs.Writing.{written_whole}
use Rattle.numbers.proofs.be_bytes.Goals as goal

pub returns : goal.returns
returns g c = record {
  are_its_bytes = λ e. c.write_front.ensures.is_written_there ∙ written_whole g.N.BigEndian.WIDTH (g.N.BigEndian.value c.args.n) g.row.LEN (replicate g.row.LEN 0) e (length-replicate g.row.LEN 0);
}
