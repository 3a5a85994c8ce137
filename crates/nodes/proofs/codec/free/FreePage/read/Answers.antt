use Rattle.std.proofs.Common.{◌≡◌, ap}
use Rattle.nodes.specs.Layout.{free_image, FreeFits}
use Rattle.nodes.specs.Readings.{free_in}
use Rattle.nodes.proofs.Spelling.{made_free, free_back, read_back}
use Rattle.nodes.proofs.codec.free.FreePage.read.Goals as goal

pub returns : goal.returns
unfolding free_in
returns c =
    let page = c.args.page.now in
    let stands : made_free c.read_at.result ≡ free_in c.args.page.now = ap made_free c.read_at.ensures.is_the_number_there in
    record { is_what_stands_there = stands; is_the_value_of_an_image = read_back free_image FreeFits free_in free_back page (made_free c.read_at.result) stands }
