-- Settle: never refused, open or not.
use Rattle.std.specs.Prelude.{◌≡◌, true}
use Rattle.calls.specs.States.{State}

pub record Settles (before after : State) : Type 0 where
  pub leaves_the_pages : after.meaning ≡ before.meaning
  pub leaves_the_openness : after.is_open ≡ before.is_open
  pub settles_the_store : after.settled ≡ true
