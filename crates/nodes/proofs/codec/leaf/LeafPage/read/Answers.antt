use Rattle.std.proofs.Common.{map, drop, ap, ◌∙◌, arith}
use Rattle.std.proofs.lemmas.List.{take_all, length-drop}
use Rattle.nodes.specs.Few.{items}
use Rattle.nodes.specs.Layout.{leaf_image, LeafFits}
use Rattle.nodes.specs.Readings.{leaf_in, entry_in}
use Rattle.nodes.specs.Meanings.{entry_of}
use Rattle.nodes.proofs.Spelling.{made_leaf, leaf_back, read_back}
use Rattle.nodes.proofs.Cutting.{first_pieces}
use Rattle.nodes.proofs.Reading.{leaf_read}
use Rattle.nodes.proofs.codec.leaf.LeafPage.read.Goals as goal

pub returns : goal.returns
returns c =
    let page = c.args.page.now in
    let xs = map entry_of (items c.read_pieces.result) in
    let l = length-drop 32 c.args.page.now in
    let many = c.told-page in
    let cut = first_pieces 60 _ c.min-count.result _ (drop 32 page) c.as_chunks.result.0.now c.as_chunks.ensures.front (take_all 480 (drop 32 page) (omega arith)) (omega arith) in
    let stands = leaf_read page xs c.read_at-2.result c.min-count.result c.read_at-2.ensures.is_the_number_there (omega arith) (c.read_pieces.ensures.are_what_stands_there ∙ ap (map entry_in) cut) in
    record { is_what_stands_there = stands; is_the_value_of_an_image = read_back leaf_image LeafFits leaf_in leaf_back page (made_leaf c.read_at-2.result xs) stands }
