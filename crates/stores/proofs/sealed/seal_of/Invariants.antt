use Rattle.std.proofs.Common.{◌≡◌, ◌+◌, ◌*◌, ◌≤◌, drop}
use Rattle.stores.specs.Slots.{seal, seal_from}
use Rattle.stores.proofs.sealed.seal_of.Given as goal

abbrev pub invariant-loop-i : goal.invariant-loop-i
invariant-loop-i l = (l.sum + seal_from l.i (drop l.i l.page) ≡ seal l.page) × (l.sum ≤ 130560 * l.i)
