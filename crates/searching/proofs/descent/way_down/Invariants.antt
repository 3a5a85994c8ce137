use Rattle.std.proofs.Common.{◌≡◌, ◌+◌, ◌≤◌}
use Rattle.searching.proofs.Onwards.{Onward}
use Rattle.searching.proofs.descent.way_down.Given as goal

abbrev pub invariant-loop-level : goal.invariant-loop-level
invariant-loop-level g l =
    (g.S.PageStore.meaning l.store ≡ g.S.PageStore.meaning l.initial.store)
    × Onward g.K.KeyKind.kind (g.S.PageStore.meaning l.initial.store) l.key l.root l.height l._level l.page
    × (l._level ≤ 65536)
    × (l.reads + 1 ≡ l._level)
