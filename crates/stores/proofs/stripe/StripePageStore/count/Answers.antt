use Rattle.std.proofs.Common.{rules}
use Rattle.stores.proofs.Striped.{count_stripe, sound_stripe}
use Rattle.stores.proofs.stripe.StripePageStore.count.Goals as goal

pub returns : goal.returns
returns g c =
    let a = g.A.PageStore.meaning c.args.self.now.first in
    let b = g.B.PageStore.meaning c.args.self.now.second in
    let l = count_stripe a b in
    record {
      is_the_count = search rules;
      means_sound_pages = sound_stripe a b c.count.ensures.means_sound_pages c.count-2.ensures.means_sound_pages;
    }
