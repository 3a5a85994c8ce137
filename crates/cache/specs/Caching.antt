-- A cache: the pages that it holds, what it means, and whether it is settled.
use Rattle.std.specs.Prelude.{Bool, ◌&&◌, List}
use Rattle.page_store.specs.Meanings.{Meaning}
use Rattle.cache.specs.declared.Cache.{Cache}
use Rattle.cache.specs.declared.held.Held.{Held}
use Rattle.cache.specs.Holding.{pages_of, put_in, same_meaning}

abbrev pub held_in : {S : Type 0} → Cache S → List Held
held_in cache = pages_of cache.held.items

-- the store below, which means what `means` says of it, with the held pages put in
abbrev pub cache_meaning : {S : Type 0} → (means : S → Meaning) → Cache S → Meaning
cache_meaning means cache = put_in (held_in cache) (means cache.below)

-- no unwritten change is held, so that the store below means the same by itself, and that store is settled
abbrev pub cache_settled : {S : Type 0} → (means : S → Meaning) → (settles : S → Bool) → Cache S → Bool
cache_settled means settles cache = same_meaning (cache_meaning means cache) (means cache.below) && settles cache.below
