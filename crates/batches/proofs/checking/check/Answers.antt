use Rattle.numbers.proofs.Spelling.{bytes_from_cells}
use Rattle.batches.proofs.Layouts.{accepted_exactly}
use Rattle.batches.proofs.checking.check.Goals as goal

pub returns-clause-accepted_exactly_if_it_has_the_layout : goal.returns-clause-accepted_exactly_if_it_has_the_layout
returns-clause-accepted_exactly_if_it_has_the_layout c =
    rw c.first_fault.ensures (accepted_exactly c.args.bytes.now (bytes_from_cells c.args.bytes.now (λ i. (c.type_inv.bytes i).fits)))
