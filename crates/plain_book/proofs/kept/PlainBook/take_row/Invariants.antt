use Rattle.std.proofs.Common.{◌≡◌}
use Rattle.batches.specs.Rows.{row_read}
use Rattle.book.specs.Books.{Sorted}
use Rattle.book.specs.Merging.{bookings_of, lines_taken}
use Rattle.book.specs.Entries.{paged}
use Rattle.plain_book.specs.Kept.{entries_in}
use Rattle.plain_book.proofs.kept.PlainBook.take_row.Given as goal

abbrev pub invariant-loop-line : goal.invariant-loop-line
invariant-loop-line g l =
    let kind = g.K.KeyKind.kind in
    let left = l.line-iterator in
    (goal.iterator-loop-line g).can_next left
    × (goal.iterator-loop-line g).is_finite left
    × (Sorted kind (entries_in l.initial.self) → lines_taken kind paged (bookings_of (row_read l.row)) (entries_in l.initial.self) ≡ lines_taken kind paged (bookings_of (record { key = l.row.key.now; lines = left })) (entries_in l.self))
    × (Sorted kind (entries_in l.initial.self) → Sorted kind (entries_in l.self))
