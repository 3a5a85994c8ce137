use Rattle.std.proofs.Common.{◌≡◌, length, sym, ap, ◌∙◌, arith}
use Rattle.std.proofs.lemmas.List.{map-id}
use Rattle.nodes.specs.Layout.{record_image, RecordFits}
use Rattle.nodes.specs.Readings.{record_in}
use Rattle.nodes.specs.Meanings.{record_of}
use Rattle.nodes.proofs.Spelling.{encoded, record_back}
use Rattle.nodes.proofs.Writing.{record_encoded}
use Rattle.nodes.proofs.codec.records.RecordPage.encode.Goals as goal

pub returns : goal.returns
returns c =
    let it = c.args.self.now in
    let are = c.as_slice.ensures.value in
    let few = c.as_slice.ensures.fits in
    let same = map-id c.as_slice.result.now in
    let counted : c.len.result ≡ length c.as_slice.result.now = c.len.ensures.value ∙ ap length (sym are) in
    let some = it.has_a_posting in
    let done = record_encoded it.next c.as_slice.result.now c.fronted-page.result c.put_pieces.new.page (rw are some) (omega arith) c.fronted-page.ensures.fits (rw same at c.put_pieces.ensures.fit) (rw counted at c.fronted-page.ensures.is_fronted) (rw same at c.put_pieces.ensures.are_written) in
    record { is_its_page = encoded record_image RecordFits record_in record_back record_of c.put_pieces.new.page (record_of it) (rw are at done) }
