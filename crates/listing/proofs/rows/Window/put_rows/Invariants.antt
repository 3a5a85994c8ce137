use Rattle.std.proofs.Common.{◌≡◌, take}
use Rattle.listing.specs.Filling.{rows_of, filled}
use Rattle.listing.specs.Windows.{with_bytes}
use Rattle.listing.proofs.rows.Window.put_rows.Given as goal

abbrev pub invariant-loop-i : goal.invariant-loop-i
invariant-loop-i l = l.self ≡ with_bytes l.initial.self (filled l.initial.self.skip l.at (rows_of l.key (take l.i l.postings)) l.initial.self.buffer.now)
