use Rattle.nodes.specs.Few.{items}
use Rattle.nodes.proofs.Pieces.{Taken}
use Rattle.nodes.proofs.piece.read_pieces.Given as goal

abbrev pub invariant-loop-piece : goal.invariant-loop-piece
invariant-loop-piece g l = Taken g.P.Piece.meaning g.P.Piece.reading l.pieces l.piece-index (items l.values)
