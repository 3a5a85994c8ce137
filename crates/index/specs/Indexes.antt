-- What an index is to its calls.
use Rattle.std.specs.Prelude.{Bool}
use Rattle.page_store.specs.Meanings.{Meaning}
use Rattle.calls.specs.States.{State, state_of}
use Rattle.index.specs.declared.Index.{Index}

-- the state of an index over a store, which means and is settled as these functions say of it
abbrev pub state_over : {S K : Type 0} → (S → Meaning) → (S → Bool) → Index S K → State
state_over meaning settled index = state_of (meaning index.store) index.«open» (settled index.store)
