use Rattle.std.proofs.Common.{map, take}
use Rattle.nodes.proofs.Pieces.{Put}
use Rattle.nodes.proofs.piece.put_pieces.Given as goal

abbrev pub invariant-loop-i : goal.invariant-loop-i
invariant-loop-i g l = Put g.row.WIDTH l.at g.P.Piece.bytes g.P.Piece.Fits l.initial.page (take l.i (map g.P.Piece.meaning l.values)) l.page
