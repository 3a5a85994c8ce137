use Rattle.std.proofs.Common.{◌≡◌, ◌++◌}
use Rattle.std.specs.List.{flat_map}
use Rattle.batches.specs.Reading.{rows_in}
use Rattle.book_listing.specs.Writing.{postings_text, batch_text}
use Rattle.book_listing.proofs.listing.batch_text.Given as goal

abbrev pub invariant-loop-row : goal.invariant-loop-row
invariant-loop-row l =
    (goal.iterator-loop-row).can_next l.row-iterator
    × (goal.iterator-loop-row).is_finite l.row-iterator
    × (l.text ++ flat_map postings_text l.row-iterator.rows ≡ batch_text (rows_in l.batch.bytes.now))
