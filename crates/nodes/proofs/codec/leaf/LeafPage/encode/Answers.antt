use Rattle.std.proofs.Common.{◌≡◌, map, length, sym, ap, ◌∙◌, arith}
use Rattle.std.proofs.lemmas.List.{length-map}
use Rattle.nodes.specs.Layout.{leaf_image, LeafFits}
use Rattle.nodes.specs.Readings.{leaf_in}
use Rattle.nodes.specs.Meanings.{entry_of, leaf_of}
use Rattle.nodes.proofs.Spelling.{encoded, leaf_back}
use Rattle.nodes.proofs.Writing.{leaf_encoded}
use Rattle.nodes.proofs.codec.leaf.LeafPage.encode.Goals as goal

pub returns : goal.returns
returns c =
    let it = c.args.self.now in
    let es = map entry_of c.as_slice.result.now in
    let are = c.as_slice.ensures.value in
    let few = c.as_slice.ensures.fits in
    let long = length-map c.as_slice.result.now entry_of in
    let counted : c.len.result ≡ length (map entry_of c.as_slice.result.now) = c.len.ensures.value ∙ ap length (sym are) ∙ sym long in
    let done = leaf_encoded it.next es c.fronted-page.result c.put_pieces.new.page (omega arith) c.fronted-page.ensures.fits c.put_pieces.ensures.fit (rw counted at c.fronted-page.ensures.is_fronted) c.put_pieces.ensures.are_written in
    record { is_its_page = encoded leaf_image LeafFits leaf_in leaf_back leaf_of c.put_pieces.new.page (leaf_of it) (rw are at done) }
