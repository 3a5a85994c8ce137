use Rattle.std.proofs.Common.{◌≡◌, length, sym, ap, ◌∙◌, arith}
use Rattle.std.proofs.lemmas.List.{map-id}
use Rattle.nodes.specs.Meanings.{entry_of}
use Rattle.nodes.specs.PageLaws.{length_entry}
use Rattle.nodes.proofs.Writing.{entry_encoded}
use Rattle.nodes.proofs.codec.entry.EntryPieceENTRY_SIZE.encode.Goals as goal

pub returns : goal.returns
returns c =
    let it = c.args.self.now in
    let are = c.as_slice.ensures.value in
    let few = c.as_slice.ensures.fits in
    let same = map-id c.as_slice.result.now in
    let counted : c.len.result ≡ length c.as_slice.result.now = c.len.ensures.value ∙ ap length (sym are) in
    let done = entry_encoded it.key c.as_slice.result.now it.head it.chained c.put.new.page c.write_at.new.bytes c.put_pieces.new.page c.write_at-2.new.bytes c.write_at-3.new.bytes it.has_24_key_bytes c.put.ensures.are_bytes (omega arith) (rw same at c.put_pieces.ensures.fit) c.write_at-2.ensures.fits c.write_at-3.ensures.fits c.put.ensures.are_written (rw counted at c.write_at.ensures.is_written_there) (rw same at c.put_pieces.ensures.are_written) c.write_at-2.ensures.is_written_there c.write_at-3.ensures.is_written_there in
    let now = rw are at done in
    record { are_its_bytes = now.0; fits = now.1; has_its_width = ap length now.0 ∙ length_entry (entry_of it) now.1 }
