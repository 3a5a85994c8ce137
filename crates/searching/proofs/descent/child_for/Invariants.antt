use Rattle.searching.proofs.Choosing.{Chosen}
use Rattle.nodes.specs.Meanings.{inner_of}
use Rattle.searching.proofs.descent.child_for.Given as goal

abbrev pub invariant-loop-row : goal.invariant-loop-row
invariant-loop-row g l = Chosen g.K.KeyKind.kind l.key (inner_of l.node) l.row-index l.child
