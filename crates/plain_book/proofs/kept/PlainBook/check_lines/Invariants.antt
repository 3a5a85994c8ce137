use Rattle.std.proofs.Common.{◌≡◌, ◌+◌, ◌≤◌, length}
use Rattle.batches.specs.Layout.{lines_of}
use Rattle.batches.specs.Reading.{rows_in}
use Rattle.book.specs.Books.{Sorted}
use Rattle.book.specs.Merging.{lines_under, lines_answer}
use Rattle.book.specs.Entries.{paged}
use Rattle.plain_book.specs.Kept.{entries_in}
use Rattle.plain_book.specs.Lines.{LawfulKeys}
use Rattle.plain_book.proofs.kept.PlainBook.check_lines.Given as goal

abbrev pub invariant-loop-row : goal.invariant-loop-row
invariant-loop-row g l =
    let kind = g.K.KeyKind.kind in
    let left = l.row-iterator in
    (goal.iterator-loop-row g).can_next left
    × (goal.iterator-loop-row g).is_finite left
    × (Sorted kind (entries_in l.self) → lines_answer kind paged 0 (lines_under (rows_in l.batch.bytes.now)) (entries_in l.self) ≡ lines_answer kind paged left.first (lines_under left.rows) (entries_in l.self))
    × LawfulKeys kind left.rows
    × (left.first + length (lines_of left.rows) ≤ 1024)
