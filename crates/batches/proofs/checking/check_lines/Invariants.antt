use Rattle.std.proofs.Common.{◌≡◌, ◌+◌, true, map, length, drop}
use Rattle.batches.specs.Reading.{content_of, cell_of}
use Rattle.batches.specs.Opening.{lines_answer, follow}
use Rattle.batches.proofs.checking.check_lines.Given as goal

abbrev pub invariant-loop-row : goal.invariant-loop-row
invariant-loop-row l =
    (lines_answer 0 (map content_of l.rows) (map cell_of l.lines) ≡ lines_answer l.first (map content_of (drop l.row-index l.rows)) (map cell_of l.left))
    × (follow l.first (map content_of (drop l.row-index l.rows)) (length l.lines) ≡ true)
    × (l.first + length l.left ≡ length l.lines)
