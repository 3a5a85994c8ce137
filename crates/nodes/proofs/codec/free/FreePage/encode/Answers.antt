use Rattle.nodes.specs.Layout.{free_image, FreeFits}
use Rattle.nodes.specs.Readings.{free_in}
use Rattle.nodes.specs.Meanings.{free_of}
use Rattle.nodes.proofs.Spelling.{encoded, free_back, free_spells}
use Rattle.nodes.proofs.codec.free.FreePage.encode.Goals as goal

pub returns : goal.returns
returns c =
    let v = free_of c.args.self.now in
    let page = c.fronted.result in
    record { is_its_page = encoded free_image FreeFits free_in free_back free_of page v (free_spells page v (record { next_fits = c.fronted.ensures.fits }) c.fronted.ensures.is_fronted) }
