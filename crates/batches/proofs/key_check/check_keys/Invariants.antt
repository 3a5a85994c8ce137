use Rattle.std.proofs.Common.{◌≡◌, ◌+◌, ◌≤◌, true, length, None, IfSome}
use Rattle.std.specs.Option.{option_copied}
use Rattle.batches.specs.Reading.{rows_in}
use Rattle.batches.specs.KeyCheck.{keys_answer}
use Rattle.batches.proofs.key_check.check_keys.Given as goal

abbrev pub invariant-loop-i : goal.invariant-loop-i
invariant-loop-i g l =
    let kind = g.K.KeyKind.kind in
    let i = l.i-iterator.count in
    let left = l.i-iterator.iter.rows in
    (goal.iterator-loop-i g).can_next l.i-iterator
    × (goal.iterator-loop-i g).is_finite l.i-iterator
    × (keys_answer kind 0 None (rows_in l.batch.bytes.now) ≡ keys_answer kind i (option_copied l.before) left)
    × IfSome l.before (λ last. kind.lawful last.now ≡ true)
    × (i + length left ≤ 1024)
