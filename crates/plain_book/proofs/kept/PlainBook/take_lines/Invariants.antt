use Rattle.std.proofs.Common.{◌≡◌}
use Rattle.batches.specs.Reading.{rows_in}
use Rattle.book.specs.Books.{Sorted}
use Rattle.book.specs.Merging.{lines_under, lines_taken}
use Rattle.book.specs.Entries.{paged}
use Rattle.plain_book.specs.Kept.{entries_in}
use Rattle.plain_book.specs.Lines.{LawfulKeys}
use Rattle.plain_book.proofs.kept.PlainBook.take_lines.Given as goal

abbrev pub invariant-loop-row : goal.invariant-loop-row
invariant-loop-row g l =
    let kind = g.K.KeyKind.kind in
    let left = l.row-iterator in
    (goal.iterator-loop-row g).can_next left
    × (goal.iterator-loop-row g).is_finite left
    × (Sorted kind (entries_in l.initial.self) → lines_taken kind paged (lines_under (rows_in l.batch.bytes.now)) (entries_in l.initial.self) ≡ lines_taken kind paged (lines_under left.rows) (entries_in l.self))
    × (Sorted kind (entries_in l.initial.self) → Sorted kind (entries_in l.self))
    × LawfulKeys kind left.rows
