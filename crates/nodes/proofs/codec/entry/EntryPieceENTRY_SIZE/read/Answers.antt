use Rattle.std.proofs.Common.{map, drop, sym, ap, ◌∙◌, arith}
use Rattle.std.proofs.lemmas.List.{take_all, length-drop, map-id}
use Rattle.numbers.specs.BigEndian.{number_of}
use Rattle.nodes.specs.Few.{items}
use Rattle.nodes.proofs.Cutting.{first_pieces}
use Rattle.nodes.proofs.Reading.{entry_read}
use Rattle.nodes.proofs.codec.entry.EntryPieceENTRY_SIZE.read.Goals as goal

pub returns : goal.returns
returns c =
    let piece = c.args.piece.now in
    let ps = items c.read_pieces.result in
    let l = length-drop 28 c.args.piece.now in
    let many = c.told-piece in
    let cut = first_pieces 8 _ c.min-count.result _ (drop 28 piece) c.as_chunks.result.0.now c.as_chunks.ensures.front (take_all 32 (drop 28 piece) (omega arith)) (omega arith) in
    record { is_what_stands_there = entry_read piece c.key_at.result ps c.read_at-2.result c.read_at-3.result c.min-count.result c.key_at.ensures.is_the_field_there (omega arith) (sym (map-id ps) ∙ (c.read_pieces.ensures.are_what_stands_there ∙ ap (map number_of) cut)) c.read_at-2.ensures.is_the_number_there c.read_at-3.ensures.is_the_number_there }
