use Rattle.std.proofs.Common.{sym, ap, ◌∙◌}
use Rattle.page_store.specs.Meanings.{Live}
use Rattle.stores.specs.FormLaws.{agrees}
use Rattle.stores.specs.Slots.{seal}
use Rattle.stores.proofs.Sealing.{past_page, disagrees}
use Rattle.stores.proofs.sealed.WithSealForm.page_in.Goals as goal

pub returns-then-read_at-seal_of : goal.returns-then-read_at-seal_of
returns-then-read_at-seal_of c =
    let slot = c.args.slot.now in
    let front = c.in_ok-page.ensures.cases.same in
    record {
      is_the_page = λ h. disagrees slot (λ e. c.if-read_at-seal_of.true (c.read_at.ensures.is_the_number_there ∙ past_page slot h ∙ e ∙ ap seal (sym front) ∙ sym c.seal_of.ensures.is_the_seal));
    }

pub returns : goal.returns
returns c =
    let slot = c.args.slot.now in
    let front = c.in_ok-page.ensures.cases.same in
    record {
      is_the_page = λ h. agrees slot (sym (past_page slot h) ∙ sym c.read_at.ensures.is_the_number_there ∙ c.if-read_at-seal_of.false ∙ c.seal_of.ensures.is_the_seal ∙ ap seal front) ∙ ap Live (sym front);
    }
