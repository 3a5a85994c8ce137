use Rattle.std.proofs.Common.{◌≡◌, ◌+◌, ◌*◌, ◌≤◌}
use Rattle.nodes.specs.Meanings.{leaf_of}
use Rattle.listing.specs.Windows.{Stays}
use Rattle.listing.specs.Walks.{most_in_entry}
use Rattle.listing.proofs.LeafSteps.{LeafSoFar}
use Rattle.listing.proofs.leaves.list_leaf.Given as goal

abbrev pub invariant-loop-entry : goal.invariant-loop-entry
invariant-loop-entry g l =
    record {
      same_meaning : g.S.PageStore.meaning l.store ≡ g.S.PageStore.meaning l.initial.store;
      stays : Stays l.initial.window l.window;
      few : l.next ≤ l.at + most_in_entry * l.entry-index;
      so_far : LeafSoFar g.K.KeyKind.kind (g.S.PageStore.meaning l.initial.store).pages (leaf_of l.leaf) l.range.first.field.now l.range.second.field.now l.at l.initial.window.skip l.initial.window.buffer.now l.entry-index l.next l.window.buffer.now;
    }
