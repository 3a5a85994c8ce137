use Rattle.std.proofs.Common.{◌∙◌}
use Rattle.batches.specs.Rows.{row_read}
use Rattle.plain_book.specs.Kept.{entries_in}
use Rattle.plain_book.proofs.LineByLine.{lawful_step, taken_step}
use Rattle.plain_book.proofs.kept.PlainBook.take_lines.Goals as goal

pub loop-row-preserved : goal.loop-row-preserved
loop-row-preserved g c =
    let kind = g.K.KeyKind.kind in
    let row = row_read c.in-Some.row in
    let left = c.loop-row.row-iterator.rows in
    let rest = c.next.new.self.rows in
    let next = c.in-Some.ensures.steps.0 in
    let before = c.loop-row.invariant in (
      tt,
      tt,
      (λ sorted. before.2 sorted ∙ taken_step kind row left rest next (entries_in c.loop-row.self) (entries_in c.take_row.new.self) (c.in_ok-take_row.ensures.taken (before.3 sorted))),
      (λ sorted. c.take_row.ensures.rising (before.3 sorted)),
      (lawful_step kind row left rest next before.4).1,
    )
