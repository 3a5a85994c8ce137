use Rattle.std.proofs.Common.{length, ap, ◌∙◌}
use Rattle.nodes.specs.Layout.{RowFits}
use Rattle.nodes.specs.Meanings.{row_of}
use Rattle.nodes.specs.PageLaws.{length_row}
use Rattle.nodes.proofs.Writing.{row_written}
use Rattle.nodes.proofs.codec.row.ChildRowPieceROW_SIZE.encode.Goals as goal

pub returns : goal.returns
returns c =
    let it = c.args.self.now in
    let e = row_written it.key it.child c.write_at.new.bytes c.put.new.page it.has_24_key_bytes c.write_at.ensures.is_written_there c.put.ensures.are_written in
    let f : RowFits (row_of c.args.self.now) = record { key_is_24_bytes = it.has_24_key_bytes; key_holds_bytes = c.put.ensures.are_bytes; child_fits = c.write_at.ensures.fits } in
    record {
      are_its_bytes = e;
      fits = f;
      has_its_width = ap length e ∙ length_row (row_of it) f;
    }
