use Rattle.std.proofs.Common.{◌≡◌, ◌++◌}
use Rattle.batches.specs.Rows.{row_read}
use Rattle.book_listing.specs.Writing.{postings_text}
use Rattle.book_listing.proofs.listing.put_postings.Given as goal

abbrev pub invariant-loop-line : goal.invariant-loop-line
invariant-loop-line l =
    (goal.iterator-loop-line).can_next l.line-iterator
    × (goal.iterator-loop-line).is_finite l.line-iterator
    × (l.text ++ postings_text (record { key = l.row.key.now; lines = l.line-iterator.iter }) ≡ l.initial.text ++ postings_text (row_read l.row))
