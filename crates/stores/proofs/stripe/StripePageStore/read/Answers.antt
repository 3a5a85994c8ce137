use Rattle.std.proofs.Common.{◌≡◌, ◌/◌, length, ap, ◌∙◌, rules, arith}
use Rattle.refusals.specs.Refusals.{answer_of}
use Rattle.page_store.specs.Meanings.{read_answer}
use Rattle.stores.specs.Stripes.{stripe_meaning, renamed}
use Rattle.stores.proofs.Striped.{told_by_its_number, count_stripe, even_page, odd_page, read_via, fill_via}
use Rattle.stores.proofs.stripe.StripePageStore.read.Goals as goal
use Rattle.stores.proofs.stripe.StripePageStore.read.Goals.{then-page-eq0, else-page-eq0}

pub returns-clause-answers_by_the_meaning : goal.returns-clause-answers_by_the_meaning
returns-clause-answers_by_the_meaning g c =
    let a = g.A.PageStore.meaning c.args.self.now.first in
    let b = g.B.PageStore.meaning c.args.self.now.second in
    let m = stripe_meaning a b in
    let n = c.args.page in
    let old = c.args.buffer.now in
    let there = c.in_ok-reach.ensures.accepts_only_a_page_that_is_there in
    let l = count_stripe a b in
    let same : renamed (answer_of c.if-page-eq0.answer) n ≡ read_answer m n (length old) =
    elim c.if-page-eq0.branch [
      | then-page-eq0 w ↦
          ap (λ x. renamed (answer_of x) n) w.answer-is
          ∙ ap (λ x. renamed x n) w.read-answer.ensures.answers_by_the_meaning
          ∙ read_via m a n (n / 2) old there.0 (omega arith) (omega arith) (even_page a b n (omega arith) (omega arith))
      | else-page-eq0 w ↦
          ap (λ x. renamed (answer_of x) n) w.answer-is
          ∙ ap (λ x. renamed x n) w.read-answer-else-page-eq0.ensures.answers_by_the_meaning
          ∙ read_via m b n (n / 2) old there.0 (omega arith) (omega arith) (odd_page a b n (omega arith) w.if-page-eq0.false)
    ] in
    told_by_its_number c.if-page-eq0.answer c.map_err.result n c.map_err.ensures.cases (λ e y h. search rules) ∙ same

pub returns-clause-fills_the_buffer : goal.returns-clause-fills_the_buffer
returns-clause-fills_the_buffer g c =
    let a = g.A.PageStore.meaning c.args.self.now.first in
    let b = g.B.PageStore.meaning c.args.self.now.second in
    let m = stripe_meaning a b in
    let n = c.args.page in
    let old = c.args.buffer.now in
    let there = c.in_ok-reach.ensures.accepts_only_a_page_that_is_there in
    let l = count_stripe a b in
    elim c.if-page-eq0.branch [
      | then-page-eq0 w ↦
          w.buffer-is ∙ w.read-answer.ensures.fills_the_buffer ∙ fill_via m a n (n / 2) old there.0 (omega arith) (omega arith) (even_page a b n (omega arith) (omega arith))
      | else-page-eq0 w ↦
          w.buffer-is ∙ w.read-answer-else-page-eq0.ensures.fills_the_buffer ∙ fill_via m b n (n / 2) old there.0 (omega arith) (omega arith) (odd_page a b n (omega arith) w.if-page-eq0.false)
    ]
