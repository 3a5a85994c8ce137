use Rattle.batches.proofs.Rowwise.{rows_go_on}
use Rattle.batches.proofs.open.OpenBatch.rows.Goals as goal

pub invariant_of-result : goal.invariant_of-result
invariant_of-result c =
    rw c.iter.ensures.rest
    (rows_go_on c.args.self.now.bytes.now c.args.self.now.opened c.rows.result.now c.lines.result.now c.rows.ensures.are_the_contents c.lines.ensures.are_the_cells)
