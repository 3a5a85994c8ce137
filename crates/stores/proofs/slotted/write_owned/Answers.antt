use Rattle.std.proofs.Common.{length, ap, ◌∙◌, arith}
use Rattle.std.proofs.lemmas.List.{with_items_is}
use Rattle.page_store.specs.Meanings.{write_answer, after_write}
use Rattle.stores.specs.Slots.{slots_meaning, slots_written}
use Rattle.stores.proofs.slotted.write_owned.Goals as goal

pub returns : goal.returns
returns g c =
    let means = slots_meaning g.F.Form.WIDTH g.F.Form.page_of in
    let wrote = slots_written g.F.Form.WIDTH g.F.Form.page_of g.F.Form.slot_of in
    let n = c.args.page in
    let new = c.args.buffer.now in
    let is = c.deref_mut.ensures.value in
    let memory = with_items_is c.args.memory.now c.write_slot.new.memory (omega arith) in
    record {
      answers_by_the_meaning = c.write_slot.ensures.answers_by_the_meaning ∙ ap (λ m. write_answer (means m) n (length new)) is;
      changes_that_page = ap means memory ∙ (c.write_slot.ensures.changes_that_page ∙ ap (λ m. after_write (means m) n new) is);
      changes_that_slot = memory ∙ (c.write_slot.ensures.changes_that_slot ∙ ap (λ m. wrote m n new) is);
    }
