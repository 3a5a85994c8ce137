use Rattle.std.proofs.Common.{map, drop, ap, ◌∙◌, arith}
use Rattle.std.proofs.lemmas.List.{take_all, length-drop}
use Rattle.nodes.specs.Few.{items}
use Rattle.nodes.specs.Layout.{inner_image, InnerFits}
use Rattle.nodes.specs.Readings.{inner_in, row_in}
use Rattle.nodes.specs.Meanings.{row_of}
use Rattle.nodes.proofs.Spelling.{made_inner, inner_back, read_back}
use Rattle.nodes.proofs.Cutting.{first_pieces}
use Rattle.nodes.proofs.Reading.{inner_read}
use Rattle.nodes.proofs.codec.inner.InnerNodePage.read.Goals as goal

pub returns : goal.returns
returns c =
    let page = c.args.page.now in
    let xs = map row_of (items c.read_pieces.result) in
    let l = length-drop 60 c.args.page.now in
    let many = c.told-page in
    let cut = first_pieces 28 _ c.min-count.result _ (drop 60 page) c.as_chunks.result.0.now c.as_chunks.ensures.front (take_all 452 (drop 60 page) (omega arith)) (omega arith) in
    let stands = inner_read page xs c.read_at-2.result c.min-count.result c.read_at-2.ensures.is_the_number_there (omega arith) (c.read_pieces.ensures.are_what_stands_there ∙ ap (map row_in) cut) in
    record { is_what_stands_there = stands; is_the_value_of_an_image = read_back inner_image InnerFits inner_in inner_back page (made_inner c.read_at-2.result xs) stands }
