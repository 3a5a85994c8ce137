use Rattle.std.proofs.Common.{◌+◌, ◌*◌, ◌≤◌, map, length, arith}
use Rattle.std.proofs.Math.Nat.{mul-le-mul_left}
use Rattle.std.proofs.lemmas.List.{take_all, length-map}
use Rattle.nodes.proofs.Pieces.{put_none, put_next}
use Rattle.nodes.proofs.piece.put_pieces.Goals as goal

pub loop-i-init : goal.loop-i-init
loop-i-init g c = put_none g.row.WIDTH c.args.at g.P.Piece.bytes g.P.Piece.Fits c.args.page.now (let h = c.requires.within in omega arith)

pub loop-i-preserved : goal.loop-i-preserved
loop-i-preserved g c =
    let within = c.requires.within in
    let wide : g.row.WIDTH * (c.loop-i.i + 1) ≤ g.row.WIDTH * length c.args.values.now = mul-le-mul_left g.row.WIDTH (let h = c.loop-i-test.true in omega arith) in
    let room : c.args.at + g.row.WIDTH * (c.loop-i.i + 1) ≤ length c.args.page.now = omega arith in
    put_next g.row.WIDTH c.args.at g.P.Piece.bytes g.P.Piece.Fits g.P.Piece.meaning c.args.page.now c.args.values.now c.loop-i.i c.index-values-i.result c.loop-i.page c.encode.result c.put.new.page c.loop-i-test.true room c.loop-i.invariant c.index-values-i.is c.encode.ensures.are_its_bytes c.encode.ensures.has_its_width c.encode.ensures.fits c.put.ensures.are_written

pub returns : goal.returns
returns g c =
    let done = rw (take_all c.loop-i.i (map g.P.Piece.meaning c.args.values.now) (let l = length-map c.args.values.now g.P.Piece.meaning in let past = c.loop-i-test.false in omega arith)) at c.loop-i.invariant in
    record { are_written = done.is; fit = done.fit }
