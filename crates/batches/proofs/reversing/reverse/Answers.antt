use Rattle.std.proofs.Common.{refl}
use Rattle.batches.proofs.Reversals.{reverses}
use Rattle.batches.proofs.reversing.reverse.Goals as goal

pub returns-clause-opens_again_with_signs_exchanged_and_twice_reversed_is_itself : goal.returns-clause-opens_again_with_signs_exchanged_and_twice_reversed_is_itself
returns-clause-opens_again_with_signs_exchanged_and_twice_reversed_is_itself c =
    λ _. reverses c.args.bytes.now (c.in_ok-check.ensures.accepted_exactly_if_it_has_the_layout.0 refl)
