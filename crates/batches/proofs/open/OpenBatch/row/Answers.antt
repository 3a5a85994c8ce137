use Rattle.batches.proofs.Rowwise.{no_row_there, row_there}
use Rattle.batches.proofs.open.OpenBatch.row.Goals as goal

pub returns-in_err-piece : goal.returns-in_err-piece
returns-in_err-piece c =
    record { is_row_i = rw c.from_residual.ensures (no_row_there c.args.self.now.bytes.now c.args.self.now.opened c.rows.result.now c.rows.ensures.are_the_contents c.args.i c.in_err-piece.ensures.lookup.3) }

pub returns : goal.returns
returns c =
    record { is_row_i = row_there c.args.self.now.bytes.now c.args.self.now.opened c.rows.result.now c.rows.ensures.are_the_contents c.args.i c.in_ok-piece.piece.now c.in_ok-piece.ensures.lookup.3.0 (c.in_ok-piece.ensures.lookup.3.1 c.in_ok-piece.piece.now) c.read_at.result c.read_at-2.result c.read_at.ensures.is_the_number_there c.read_at-2.ensures.is_the_number_there }
