use Rattle.std.proofs.Common.{map, ap, ◌∙◌}
use Rattle.std.proofs.lemmas.List.{take_all}
use Rattle.nodes.specs.Few.{items}
use Rattle.nodes.proofs.Pieces.{taken_more}
use Rattle.nodes.proofs.piece.read_pieces.Goals as goal

pub loop-piece-preserved : goal.loop-piece-preserved
loop-piece-preserved g c =
    rw c.push.ensures.items (taken_more g.P.Piece.meaning g.P.Piece.reading c.args.pieces.now c.loop-piece.piece-index (items c.loop-piece.values) c.read.result c.piece-item.result c.loop-piece-test.true c.loop-piece.invariant (c.read.ensures.is_what_stands_there ∙ ap g.P.Piece.reading c.piece-item.is))

pub returns : goal.returns
returns g c = record { are_what_stands_there = c.loop-piece.invariant.is_what_they_hold ∙ ap (map g.P.Piece.reading) (take_all c.loop-piece.piece-index c.args.pieces.now c.loop-piece-test.false) }
