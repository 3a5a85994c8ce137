use Rattle.std.proofs.Common.{◌≡◌, ◌+◌, ◌*◌, ◌≤◌}
use Rattle.lookups.proofs.Chains.{Pouring}
use Rattle.lookups.proofs.pouring.pour_chain.Given as goal

abbrev pub invariant-loop-step : goal.invariant-loop-step
invariant-loop-step g l =
    record {
      same_meaning : g.S.PageStore.meaning l.store ≡ g.S.PageStore.meaning l.initial.store;
      counted : l.end.records ≡ l._step;
      placed : l.end.place ≤ 3 + 60 * l._step;
      so_far : Pouring (g.S.PageStore.meaning l.initial.store) l.head l.place l.initial.list l.count l.page l.end l.list;
    }
