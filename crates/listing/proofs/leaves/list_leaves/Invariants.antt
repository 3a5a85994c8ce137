use Rattle.std.proofs.Common.{◌≡◌, ◌*◌, ◌≤◌}
use Rattle.nodes.specs.Meanings.{leaf_of}
use Rattle.listing.specs.Windows.{Stays}
use Rattle.listing.specs.Walks.{most_in_leaf}
use Rattle.listing.proofs.LeavesSteps.{LeavesSoFar}
use Rattle.listing.proofs.leaves.list_leaves.Given as goal

abbrev pub invariant-loop-step : goal.invariant-loop-step
invariant-loop-step g l =
    record {
      same_meaning : g.S.PageStore.meaning l.store ≡ g.S.PageStore.meaning l.initial.store;
      stays : Stays l.initial.window l.window;
      few : l.next ≤ most_in_leaf * l._step;
      so_far : LeavesSoFar g.K.KeyKind.kind (g.S.PageStore.meaning l.initial.store).pages (leaf_of l.initial.leaf) l.range.first.field.now l.range.second.field.now l.initial.window.skip l.initial.window.buffer.now l._step (leaf_of l.leaf) l.next l.window.buffer.now;
    }
