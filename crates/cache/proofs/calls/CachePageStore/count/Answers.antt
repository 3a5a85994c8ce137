use Rattle.std.proofs.Common.{sym, ◌∙◌}
use Rattle.cache.specs.Caching.{held_in}
use Rattle.cache.proofs.Holdings.{count_in, sound_in}
use Rattle.cache.proofs.calls.CachePageStore.count.Goals as goal

pub returns : goal.returns
returns g c =
    let self = c.args.self.now in
    let m = g.S.PageStore.meaning self.below in
    record {
      is_the_count = c.count.ensures.is_the_count ∙ sym (count_in (held_in self) m);
      means_sound_pages = sound_in (held_in self) m c.count.ensures.means_sound_pages;
    }
