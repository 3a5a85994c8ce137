use Rattle.batches.proofs.Walked.{count_within, rows_still_go_on}
use Rattle.batches.proofs.walking.RowsIterator.next.Goals as goal

pub split_at-requires : goal.split_at-requires
split_at-requires c =
    count_within c.self.inside.first c.read_at-count.result c.in_ok-piece.piece.now c.next.new.self.rest.now c.self.inside.lines.now (rw c.in_ok-piece.ensures.steps at c.self.invariant) c.read_at-count.ensures.is_the_number_there

pub invariant_of-self-2 : goal.invariant_of-self-2
invariant_of-self-2 c =
    rw c.split_at.ensures.back
    (rows_still_go_on c.self.inside.first c.read_at-count.result c.in_ok-piece.piece.now c.next.new.self.rest.now c.self.inside.lines.now (rw c.in_ok-piece.ensures.steps at c.self.invariant) c.read_at-count.ensures.is_the_number_there)
