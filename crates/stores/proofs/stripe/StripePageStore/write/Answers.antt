use Rattle.std.proofs.Common.{ℕ, ◌-◌, ◌/◌, cond, sym, ap, ◌∙◌, arith}
use Rattle.page_store.specs.Meanings.{with_page}
use Rattle.page_store.proofs.Laws.{on_write, write_leaves}
use Rattle.stores.specs.Stripes.{stripe_meaning, is_even}
use Rattle.stores.proofs.Striped.{half_odd, count_stripe, write_even, write_odd, write_via, if_even, if_odd}
use Rattle.stores.proofs.stripe.StripePageStore.write.Goals as goal

pub returns-then-page-eq0 : goal.returns-then-page-eq0
returns-then-page-eq0 g c =
    let a = g.A.PageStore.meaning c.args.self.now.first in
    let b = g.B.PageStore.meaning c.args.self.now.second in
    let m = stripe_meaning a b in
    let n = c.args.page in
    let new = c.args.buffer.now in
    let there = c.in_ok-reach.ensures.accepts_only_a_page_that_is_there in
    let l = count_stripe a b in
    let half = c.write.ensures.changes_that_page ∙ sym (write_leaves a (n / 2) new there.0 (omega arith)) in
    let with = with_page a (n / 2) new in
    record {
      answers_by_the_meaning = c.write.ensures.answers_by_the_meaning ∙ write_via m a n (n / 2) new there.0 (omega arith) (omega arith);
      changes_that_page = ap (λ x. stripe_meaning x b) half ∙ (write_even a b n new (omega arith) (omega arith) ∙ write_leaves m n new there.0 (omega arith));
      changes_the_first_at_even_pages = half ∙ (if_even n with a (omega arith) ∙ on_write m n new there.0 (omega arith) (cond (is_even n) with a) a);
      changes_the_second_at_odd_pages = if_even n b (with_page b ((n - 1) / 2) new) (omega arith) ∙ on_write m n new there.0 (omega arith) (cond (is_even n) b (with_page b ((n - 1) / 2) new)) b;
    }

pub returns-else-page-eq0 : goal.returns-else-page-eq0
returns-else-page-eq0 g c =
    let a = g.A.PageStore.meaning c.args.self.now.first in
    let b = g.B.PageStore.meaning c.args.self.now.second in
    let m = stripe_meaning a b in
    let n = c.args.page in
    let new = c.args.buffer.now in
    let there = c.in_ok-reach.ensures.accepts_only_a_page_that_is_there in
    let l = count_stripe a b in
    let ne = c.if-page-eq0.false in
    let half = c.write-else-page-eq0.ensures.changes_that_page ∙ sym (write_leaves b (n / 2) new there.0 (omega arith)) in
    let with = with_page b ((n - 1) / 2) new in
    record {
      answers_by_the_meaning = c.write-else-page-eq0.ensures.answers_by_the_meaning ∙ write_via m b n (n / 2) new there.0 (omega arith) (omega arith);
      changes_that_page = ap (λ x. stripe_meaning a x) half ∙ (write_odd a b n new (omega arith) ne ∙ write_leaves m n new there.0 (omega arith));
      changes_the_first_at_even_pages = if_odd n (with_page a (n / 2) new) a ne ∙ on_write m n new there.0 (omega arith) (cond (is_even n) (with_page a (n / 2) new) a) a;
      changes_the_second_at_odd_pages = half ∙ (ap (λ (i : ℕ). with_page b i new) (sym (half_odd n ne)) ∙ if_odd n b with ne ∙ on_write m n new there.0 (omega arith) (cond (is_even n) b with) b);
    }
