use Rattle.std.proofs.Common.{◌≡◌, ◌+◌, ◌-◌, ◌*◌, ◌<◌, length, refl, ap, ◌∙◌, rules, arith}
use mir.Facts.{Fits-lt-pow}
use Rattle.std.proofs.lemmas.Option.{MatchOption-at_some}
use Rattle.numbers.specs.BigEndian.{part}
use Rattle.numbers.proofs.Spelling.{bytes_from_cells, length_part}
use Rattle.stores.specs.Slots.{slot_count, slots_meaning}
use Rattle.stores.proofs.Parts.{put_back}
use Rattle.stores.proofs.Slots.{put_leaves, put_writes}
use Rattle.stores.proofs.slotted.write_slot.Goals as goal

pub returns : goal.returns
returns g c =
    let w = g.F.Form.WIDTH in
    let f = g.F.Form.page_of in
    let s = g.F.Form.slot_of in
    let laws = g.met.F.Form.laws in
    let m = c.args.memory.now in
    let n = c.args.page in
    let new = c.args.buffer.now in
    let there = c.in_ok-reach.ensures.accepts_only_a_page_that_is_there in
    let l : n < slot_count w (length m) = omega arith in
    let at = c.slot_start-at.result in
    let v = at + c.WIDTH.result - at in
    let page : c.unwrap.result.now ≡ new = (MatchOption-at_some _ _ c.unwrap.result c.unwrap.ensures c.as_array.ensures.cases).same in
    let whole : length (part at v m) ≡ w = length_part at v m (omega arith) ∙ omega arith in
    let slot = c.put_in.ensures.is_the_slot whole ∙ ap s page in
    let wide = laws.slots_have_the_width new there.0 in
    let memory = put_back m m (s new) c.put_in.new.slot (w * n) at v refl slot c.slot_start-at.ensures.is_its_start (omega arith) (omega arith) in
    record {
      answers_by_the_meaning = search rules;
      changes_that_page = ap (slots_meaning w f) memory ∙ put_leaves w f s laws m n new there.0 (bytes_from_cells new (λ i. Fits-lt-pow (c.type_inv.buffer i))) l;
      changes_that_slot = memory ∙ put_writes w f s m n new there.0 l;
    }
