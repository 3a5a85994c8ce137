use Rattle.batches.proofs.Walked.{front_has_signs}
use Rattle.batches.proofs.walking.LinesDoubleEndedIterator.next_back.Goals as goal

pub invariant_of-self-2 : goal.invariant_of-self-2
invariant_of-self-2 c = front_has_signs c.in_ok-next_back.field-0.now c.self.inside.pieces.rest.now c.next_back.new.self.rest.now c.self.invariant c.in_ok-next_back.ensures.steps
