use Rattle.std.proofs.Common.{◌≡◌, ◌+◌, map, length, ap, arith}
use Rattle.std.proofs.lemmas.List.{length-map}
use Rattle.nodes.specs.Layout.{inner_image, InnerFits}
use Rattle.nodes.specs.Readings.{inner_in}
use Rattle.nodes.specs.Meanings.{row_of, inner_of}
use Rattle.nodes.proofs.Spelling.{encoded, inner_back}
use Rattle.nodes.proofs.Writing.{inner_encoded}
use Rattle.nodes.proofs.codec.inner.InnerNodePage.encode.Goals as goal

pub returns : goal.returns
returns c =
    let it = c.args.self.now in
    let rows = map row_of c.as_slice.result.now in
    let are = c.as_slice.ensures.value in
    let few = c.as_slice.ensures.fits in
    let long = length-map c.as_slice.result.now row_of in
    let same = ap length are in
    let children : c.len.result + 1 ≡ 1 + length (map row_of c.as_slice.result.now) = let n = c.len.ensures.value in omega arith in
    let done = inner_encoded it.first rows c.fronted-page.result c.write_at.new.bytes c.put_pieces.new.page (omega arith) c.write_at.ensures.fits c.put_pieces.ensures.fit (rw children at c.fronted-page.ensures.is_fronted) c.write_at.ensures.is_written_there c.put_pieces.ensures.are_written in
    record { is_its_page = encoded inner_image InnerFits inner_in inner_back inner_of c.put_pieces.new.page (inner_of it) (rw are at done) }
