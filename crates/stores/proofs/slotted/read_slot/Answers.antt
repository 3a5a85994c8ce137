use Rattle.std.proofs.Common.{◌≡◌, ◌+◌, ◌-◌, ◌*◌, ◌<◌, length, refl, ◌∙◌, arith}
use Rattle.numbers.specs.BigEndian.{part}
use Rattle.numbers.proofs.Spelling.{length_part}
use Rattle.page_store.specs.Meanings.{Live, Gone}
use Rattle.stores.specs.Slots.{slot_count}
use Rattle.stores.proofs.Parts.{same_part}
use Rattle.stores.proofs.Slots.{slot_answers, slot_fills}
use Rattle.stores.proofs.slotted.read_slot.Goals as goal

pub returns-in_default : goal.returns-in_default
returns-in_default g c =
    let w = g.F.Form.WIDTH in
    let f = g.F.Form.page_of in
    let m = c.args.memory.now in
    let n = c.args.page in
    let old = c.args.buffer.now in
    let there = c.in_ok-reach.ensures.accepts_only_a_page_that_is_there in
    let l : n < slot_count w (length m) = omega arith in
    let at = c.slot_start-from.result in
    let v = at + c.WIDTH.result - at in
    let slot = part at v m in
    let whole : length slot ≡ w = length_part at v m (omega arith) ∙ omega arith in
    let is = same_part m m at (w * n) v w refl c.slot_start-from.ensures.is_its_start (omega arith) in
    let gone = c.in_default.ensures.is_the_page whole in
    record {
      answers_by_the_meaning = slot_answers w f m n old there.0 l slot is Gone gone;
      fills_the_buffer = slot_fills w f m n old there.0 l slot is Gone gone;
    }

pub returns : goal.returns
returns g c =
    let w = g.F.Form.WIDTH in
    let f = g.F.Form.page_of in
    let m = c.args.memory.now in
    let n = c.args.page in
    let old = c.args.buffer.now in
    let there = c.in_ok-reach.ensures.accepts_only_a_page_that_is_there in
    let l : n < slot_count w (length m) = omega arith in
    let at = c.slot_start-from.result in
    let v = at + c.WIDTH.result - at in
    let slot = part at v m in
    let whole : length slot ≡ w = length_part at v m (omega arith) ∙ omega arith in
    let is = same_part m m at (w * n) v w refl c.slot_start-from.ensures.is_its_start (omega arith) in
    let page = c.in-Some.found.now in
    let live = c.in-Some.ensures.is_the_page whole in
    record {
      answers_by_the_meaning = slot_answers w f m n old there.0 l slot is (Live page) live;
      fills_the_buffer = c.copy_page.ensures.is_copied ∙ slot_fills w f m n old there.0 l slot is (Live page) live;
    }
