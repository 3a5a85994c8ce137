use Rattle.std.proofs.Common.{map, drop, sym, ap, ◌∙◌, arith}
use Rattle.std.proofs.lemmas.List.{take_all, length-drop, map-id}
use Rattle.numbers.specs.BigEndian.{number_of}
use Rattle.nodes.specs.Few.{items}
use Rattle.nodes.specs.Layout.{record_image, RecordFits}
use Rattle.nodes.specs.Readings.{record_in}
use Rattle.nodes.proofs.Spelling.{made_record, record_back, read_back}
use Rattle.nodes.proofs.Cutting.{first_pieces}
use Rattle.nodes.proofs.Reading.{record_read}
use Rattle.nodes.proofs.codec.records.RecordPage.read.Goals as goal

pub returns : goal.returns
returns c =
    let page = c.args.page.now in
    let ps = items c.read_pieces.result in
    let l = length-drop 32 c.args.page.now in
    let many = c.told-page in
    let cut = first_pieces 8 _ c.clamp-count.result _ (drop 32 page) c.as_chunks.result.0.now c.as_chunks.ensures.front (take_all 480 (drop 32 page) (omega arith)) (omega arith) in
    let stands = record_read page ps c.read_at-2.result c.clamp-count.result c.read_at-2.ensures.is_the_number_there (omega arith) (sym (map-id ps) ∙ (c.read_pieces.ensures.are_what_stands_there ∙ ap (map number_of) cut)) in
    record { is_what_stands_there = stands; is_the_value_of_an_image = read_back record_image RecordFits record_in record_back page (made_record c.read_at-2.result ps) stands }
