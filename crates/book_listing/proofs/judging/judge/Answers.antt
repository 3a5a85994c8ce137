use Rattle.std.proofs.Common.{sym, ap, arith}
use Rattle.std.proofs.lemmas.Result.{err_from_is_err_and}
use Rattle.refusals.specs.Refusals.{number_of, place_of, answer_of}
use Rattle.numbers.proofs.Spelling.{bytes_from_cells}
use Rattle.book_listing.proofs.Judged.{too_long, not_opened, judged_batch}
use Rattle.book_listing.proofs.judging.judge.Goals as goal

pub returns-then-input-gt-MOST : goal.returns-then-input-gt-MOST
returns-then-input-gt-MOST c = too_long c.args.input.now (let long = c.if-input-gt-MOST.true in omega arith)

pub returns-in_err-check : goal.returns-in_err-check
returns-in_err-check c =
    let p = err_from_is_err_and c.from_residual.result c.from_residual.ensures.1 in
    let refusal = c.in_err-check.field-0.0 in
    rw (p.1, p.2) (not_opened c.args.input.now (let short = c.if-input-gt-MOST.false in omega arith) (number_of refusal) (place_of refusal) c.in_err-check.ensures.refused_at_the_first_failing_step_or_line)

pub returns : goal.returns
returns c =
    let input = c.args.input.now in
    let opened = sym c.in_ok-check.ensures.refused_at_the_first_failing_step_or_line in
    judged_batch input (let short = c.if-input-gt-MOST.false in omega arith) (bytes_from_cells input (λ i. (c.type_inv.input i).fits)) opened c.make-batch.result.bytes.now (ap (λ x. x.now) c.make-batch.ensures.is_over_these_bytes) (answer_of c.judge_batch-answer.result) c.judge_batch-answer.ensures
