use Rattle.std.proofs.Common.{◌≡◌, ℕ, true, eqb, List, refl, sym, ap, ◌∙◌}
use lib.Pointwise.{pointwise}
use Rattle.std.proofs.lemmas.Slice.Eq.{slice_eq-Decides}
use Rattle.std.proofs.lemmas.Bool.Decides.{Decides-eqb}
use Rattle.nodes.proofs.page.Page.decode.Goals as goal

equals_itself : (bytes : List ℕ) → pointwise eqb bytes bytes ≡ true
equals_itself bytes = (slice_eq-Decides Decides-eqb bytes bytes (pointwise eqb bytes bytes) refl).1 refl

pub returns-else-eq : goal.returns-else-eq
returns-else-eq g c =
    record {
      is_the_value_whose_page_it_is = λ v fits e.
          let same = c.in_ok-page.ensures.cases.same in
          let read = c.read-value.ensures.is_the_value_of_an_image v fits (same ∙ e) in
          let again : c.encode.result ≡ c.in_ok-page.page.now = c.encode.ensures.is_its_page.spells.is_its_image ∙ (ap g.Self.Page.image read ∙ sym (same ∙ e)) in
          let equal = rw (again, equals_itself) at c.eq.ensures in
          let no = c.if-eq.false in
          cc;
    }
