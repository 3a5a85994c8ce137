use Rattle.std.proofs.Common.{rules}
use mir.Facts.{Fits-lt-pow}
use Rattle.numbers.proofs.Spelling.{bytes_from_cells}
use Rattle.stores.proofs.Slots.{count_slots, sound_slots}
use Rattle.stores.proofs.slotted.count_slots.Goals as goal

pub returns-clause-is_the_count : goal.returns-clause-is_the_count
returns-clause-is_the_count g c = let l = count_slots g.F.Form.WIDTH g.F.Form.page_of c.args.memory.now in search rules

pub returns-clause-means_sound_pages : goal.returns-clause-means_sound_pages
returns-clause-means_sound_pages g c =
    let m = c.args.memory.now in
    sound_slots g.F.Form.WIDTH g.F.Form.page_of g.F.Form.slot_of g.met.F.Form.laws m (bytes_from_cells m (λ i. Fits-lt-pow (c.type_inv.memory i)))
