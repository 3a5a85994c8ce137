use Rattle.std.proofs.Common.{◌≡◌, ◌*◌, ◌≤◌, map, drop}
use Rattle.batches.specs.Reading.{content_of}
use Rattle.batches.specs.Opening.{follow}
use Rattle.batches.proofs.checking.rows_follow.Given as goal

abbrev pub invariant-loop-row : goal.invariant-loop-row
invariant-loop-row l =
    (follow 0 (map content_of l.rows) l.lines ≡ follow l.next (map content_of (drop l.row-index l.rows)) l.lines)
    × (l.next ≤ 4294967296 * l.row-index)
