use Rattle.std.proofs.Common.{◌≡◌, length, ap, ◌∙◌, arith}
use Rattle.nodes.specs.Layout.{padded, front_bytes}
use Rattle.nodes.specs.PageLaws.{length_padded}
use Rattle.nodes.specs.PageLaws.{length_front}
use Rattle.nodes.proofs.Writing.{front_written}
use Rattle.nodes.proofs.places.fronted.Goals as goal

pub returns : goal.returns
returns c =
    let front = front_bytes c.args.sort c.args.count c.args.next in
    let e : c.write_at-2.new.bytes ≡ padded 512 (front_bytes c.args.sort c.args.count c.args.next) =
    front_written c.args.sort c.args.count c.args.next c.begun-page.result c.write_at.new.bytes c.write_at-2.new.bytes c.begun-page.ensures.is_begun c.write_at.ensures.is_written_there c.write_at-2.ensures.is_written_there in
    record {
      is_fronted = e;
      has_512_bytes = ap length e ∙ length_padded 512 front (omega (arith, length_front c.args.sort c.args.count c.args.next));
      fits = c.write_at-2.ensures.fits;
    }
