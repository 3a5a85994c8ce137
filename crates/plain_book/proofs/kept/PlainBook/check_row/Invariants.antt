use Rattle.std.proofs.Common.{◌≡◌, ◌+◌, length}
use Rattle.batches.specs.Rows.{row_read}
use Rattle.book.specs.Books.{Sorted}
use Rattle.book.specs.Merging.{bookings_of, lines_answer}
use Rattle.book.specs.Entries.{paged}
use Rattle.plain_book.specs.Kept.{entries_in}
use Rattle.plain_book.proofs.kept.PlainBook.check_row.Given as goal

abbrev pub invariant-loop-i : goal.invariant-loop-i
invariant-loop-i g l =
    let kind = g.K.KeyKind.kind in
    let i = l.i-iterator.count in
    let left = l.i-iterator.iter in
    (goal.iterator-loop-i g).can_next l.i-iterator
    × (goal.iterator-loop-i g).is_finite l.i-iterator
    × (Sorted kind (entries_in l.self) → lines_answer kind paged l.row.first (bookings_of (row_read l.row)) (entries_in l.self) ≡ lines_answer kind paged (l.row.first + i) (bookings_of (record { key = l.row.key.now; lines = left })) (entries_in l.self))
    × (i + length left ≡ l.row.count)
