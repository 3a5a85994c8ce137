use Rattle.std.proofs.Common.{◌≡◌, take}
use Rattle.cache.specs.Holding.{pages_of, put_in}
use Rattle.cache.proofs.Cache.bring_all_down.Given as goal

-- the store below is the second part of what is left of the cache while its places are lent
abbrev pub invariant-loop-entry : goal.invariant-loop-entry
invariant-loop-entry g l =
    (pages_of l.entry-items ≡ pages_of l.initial.entry-items)
    × (put_in (pages_of l.initial.entry-items) (g.S.PageStore.meaning l.self.1.0) ≡ put_in (pages_of l.initial.entry-items) (g.S.PageStore.meaning l.initial.self.1.0))
    × (g.S.PageStore.meaning l.self.1.0 ≡ put_in (take l.entry-index (pages_of l.initial.entry-items)) (g.S.PageStore.meaning l.initial.self.1.0))
