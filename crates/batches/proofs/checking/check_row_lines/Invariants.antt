use Rattle.std.proofs.Common.{◌≡◌, ◌+◌, map, drop}
use Rattle.batches.specs.Reading.{cell_of}
use Rattle.batches.specs.Opening.{row_answer}
use Rattle.batches.proofs.checking.check_row_lines.Given as goal

abbrev pub invariant-loop-i : goal.invariant-loop-i
invariant-loop-i l = row_answer l.first 0 (map cell_of l.lines) ≡ row_answer (l.first + l.i) l.low (map cell_of (drop l.i l.lines))
