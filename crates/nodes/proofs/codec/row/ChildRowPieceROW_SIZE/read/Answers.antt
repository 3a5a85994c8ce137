use Rattle.nodes.proofs.Reading.{row_read}
use Rattle.nodes.proofs.codec.row.ChildRowPieceROW_SIZE.read.Goals as goal

pub returns : goal.returns
returns c = record { is_what_stands_there = row_read c.args.piece.now c.key_at.result c.read_at.result c.key_at.ensures.is_the_field_there c.read_at.ensures.is_the_number_there }
