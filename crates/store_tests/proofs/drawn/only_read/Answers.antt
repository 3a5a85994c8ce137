use Rattle.std.proofs.Common.{sym, refl, ap, ◌∙◌}
use Rattle.std.proofs.lemmas.Bool.{and_from}
use Rattle.stores.specs.Slots.{flat_meaning}
use Rattle.stores.specs.Memories.{flat_memory}
use Rattle.cache.proofs.Holdings.{same_as_itself}
use Rattle.store_tests.proofs.drawn.only_read.Goals as goal

pub returns : goal.returns
returns c =
    let made = c.over-cache.ensures in
    let read = c.read.ensures in
    let below = read.keeps_the_store_below ∙ ap (λ s. flat_meaning (flat_memory s)) made.lies_over_it in
    record { is_settled = and_from _ _ (same_as_itself _ _ (read.keeps_the_meaning ∙ (made.means_what_it_means ∙ sym below))) refl }
