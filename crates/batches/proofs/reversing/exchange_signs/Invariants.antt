use Rattle.std.proofs.Common.{◌≡◌, ℕ, ◌+◌, ◌-◌, ◌*◌}
use Rattle.batches.specs.Reversal.{turned_from}
use Rattle.batches.proofs.reversing.exchange_signs.Given as goal

abbrev pub invariant-loop-sign : goal.invariant-loop-sign
invariant-loop-sign l =
    (left : ℕ) × (l.sign + 9 * left ≡ l.at + 9 * l.count) × (turned_from l.at l.count l.initial.bytes ≡ turned_from l.sign left l.bytes)

abbrev pub decreases-loop-sign : goal.decreases-loop-sign
decreases-loop-sign l = l.at + 9 * l.count - l.sign
