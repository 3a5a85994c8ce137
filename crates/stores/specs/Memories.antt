-- The memory under a store, which writes at once what it is given.
use Rattle.std.specs.Prelude.{ℕ, Bool, true, List, vec_items}
use Rattle.stores.specs.declared.slotted.Slotted.{Slotted}
use Rattle.stores.specs.declared.flat.Bare.{Bare}
use Rattle.stores.specs.declared.sealed.WithSeal.{WithSeal}

abbrev pub memory_of : {F : Type 0} → Slotted F → List ℕ
memory_of store = vec_items store.memory

abbrev pub flat_memory : Slotted Bare → List ℕ
flat_memory store = memory_of store

abbrev pub sealed_memory : Slotted WithSeal → List ℕ
sealed_memory store = memory_of store

-- such a store is always settled
abbrev pub holds_nothing_back : {X : Type 0} → X → Bool
holds_nothing_back store = true
