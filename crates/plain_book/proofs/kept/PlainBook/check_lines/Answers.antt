use Rattle.std.proofs.Common.{◌≡◌, ℕ, ◌+◌, length, refl, sym, ap, ◌∙◌, arith}
use Rattle.std.proofs.lemmas.Result.{err_from_is_err_and}
use Rattle.refusals.specs.Refusals.{Accepted, Refused, number_of, place_of}
use Rattle.batches.specs.Rows.{row_read}
use Rattle.book.specs.Merging.{bookings_of, lines_under, lines_answer}
use Rattle.book.specs.Entries.{paged}
use Rattle.plain_book.specs.Kept.{entries_in}
use Rattle.plain_book.proofs.LineByLine.{lines_few, row_counted, lawful_step, few_step, answer_step}
use Rattle.plain_book.proofs.kept.PlainBook.check_lines.Goals as goal

pub loop-row-init : goal.loop-row-init
loop-row-init g c =
    let kind = g.K.KeyKind.kind in
    let bytes = c.args.batch.now.bytes.now in
    let is = c.into_iter-row-iterator.ensures.into_iter_gives ∙ c.rows-row-items.ensures.are_the_rows in
    rw is (tt, tt, (λ sorted. refl), c.requires, omega (arith, lines_few bytes c.args.batch.now.opened))

pub loop-row-preserved : goal.loop-row-preserved
loop-row-preserved g c =
    let kind = g.K.KeyKind.kind in
    let list = entries_in c.args.self.now in
    let row = row_read c.in-Some.row in
    let left = c.loop-row.row-iterator in
    let rest = c.next.new.self.rows in
    let next = c.in-Some.ensures.steps.0 in
    let numbers = c.in-Some.ensures.steps.1 in
    let first : c.next.new.self.first ≡ left.first + length row.lines = row_counted c.in-Some.row left.first c.next.new.self.first numbers.1 in (
      tt,
      tt,
      (λ sorted.
          let here : Accepted tt ≡ lines_answer kind paged left.first (bookings_of row) list = c.in_ok-check_row.ensures sorted ∙ ap (λ (k : ℕ). lines_answer kind paged k (bookings_of row) list) numbers.0 in
          c.loop-row.invariant.2 sorted ∙ (answer_step kind row left.rows rest next left.first list (Accepted tt) here ∙ ap (λ (k : ℕ). lines_answer kind paged k (lines_under rest) list) (sym first))),
      (lawful_step kind row left.rows rest next c.loop-row.invariant.3).1,
      omega (arith, first, few_step kind row left.rows rest next left.first c.loop-row.invariant.4),
    )

pub returns-in_err-check_row : goal.returns-in_err-check_row
returns-in_err-check_row g c sorted =
    let kind = g.K.KeyKind.kind in
    let list = entries_in c.args.self.now in
    let row = row_read c.in-Some.row in
    let left = c.loop-row.row-iterator in
    let rest = c.next.new.self.rows in
    let next = c.in-Some.ensures.steps.0 in
    let refusal = c.in_err-check_row.field-0.0 in
    let p = err_from_is_err_and c.from_residual.result c.from_residual.ensures.1 in
    let here = c.in_err-check_row.ensures sorted ∙ ap (λ (k : ℕ). lines_answer kind paged k (bookings_of row) list) c.in-Some.ensures.steps.1.0 in
    rw (p.1, p.2) (sym (c.loop-row.invariant.2 sorted ∙ answer_step kind row left.rows rest next left.first list (Refused (number_of refusal) (place_of refusal)) here))
