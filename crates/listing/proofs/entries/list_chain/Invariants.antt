use Rattle.std.proofs.Common.{◌≡◌, ◌+◌, ◌*◌, ◌≤◌}
use Rattle.listing.specs.Windows.{Stays}
use Rattle.listing.proofs.ChainSteps.{ChainSoFar}
use Rattle.listing.proofs.entries.list_chain.Given as goal

abbrev pub invariant-loop-step : goal.invariant-loop-step
invariant-loop-step g l =
    record {
      same_meaning : g.S.PageStore.meaning l.store ≡ g.S.PageStore.meaning l.initial.store;
      stays : Stays l.initial.window l.window;
      few : l.next ≤ l.at + 60 * l._step;
      so_far : ChainSoFar (g.S.PageStore.meaning l.initial.store).pages l.key l.head l.at l.initial.window.skip l.initial.window.buffer.now l._step l.page l.next l.window.buffer.now;
    }
