use Rattle.batches.proofs.Walked.{first_is_given, others_have_signs}
use Rattle.batches.proofs.walking.LinesIterator.next.Goals as goal

pub invariant_of-self-2 : goal.invariant_of-self-2
invariant_of-self-2 c = others_have_signs c.in_ok-next.field-0.now c.self.inside.pieces.rest.now c.next.new.self.rest.now c.self.invariant c.in_ok-next.ensures.steps

pub returns-clause-steps : goal.returns-clause-steps
returns-clause-steps c =
    first_is_given c.in_ok-next.field-0.now c.self.inside.pieces.rest.now c.next.new.self.rest.now c.self.invariant c.in_ok-next.ensures.steps c.read_line.result c.read_line.ensures c.args.self.now c.self.view_is
