use Rattle.std.proofs.Common.{refl}
use Rattle.calls.proofs.Carrying.{carried_on}
use Rattle.calls.proofs.Joining.{leads_through, made_stands, opening_finds}
use Rattle.calls.proofs.standing_is_carried_on.Goals as goal

pub returns : goal.returns
returns c = record { is_true = refl; a_made_index_stands = made_stands; each_call_carries_on = carried_on; any_list_of_calls_carries_on = leads_through; opening_finds_what_stood = opening_finds }
