use Rattle.std.proofs.Common.{◌≡◌, ◌<◌, List, [], ◌∷◌, ◌++◌, length, get_or, set, sym, ap, ◌∙◌, inl, arith}
use Rattle.std.proofs.lemmas.List.{length-map, get_or-map}
use Rattle.std.proofs.lemmas.Bool.{eqb-true}
use Rattle.page_store.specs.Meanings.{with_page}
use Rattle.cache.specs.declared.held.Held.{Held}
use Rattle.cache.specs.declared.held.Entry.{Entry}
use Rattle.cache.specs.Holding.{put_in, holds}
use Rattle.cache.specs.Caching.{held_in}
use Rattle.cache.proofs.Holdings.{apart_set, holding_more, holds_last, holds_put, swapped, spares_all, spares_but_one}
use Rattle.cache.proofs.Cache.take_in.Goals as goal

pub returns-else-is_full : goal.returns-else-is_full
returns-else-is_full g c =
    let self = c.args.self.now in
    let means = g.S.PageStore.meaning in
    let hs = held_in self in
    let new = c.args.new in
    let held = c.add.ensures.holds_it_too in
    let same = ap means c.add.ensures.keeps_the_store_below in
    record {
      means_that_page =
          ap (λ x. put_in x (means c.add.new.self.below)) held
          ∙ (ap (put_in (hs ++ (new ∷ []))) same ∙ holding_more hs new (means self.below) c.requires.is_not_held);
      holds_it = ap (λ x. holds x new.page) held ∙ holds_last hs new;
      spares_the_store_below = spares_all hs new.page (means self.below) _ same;
    }

pub put-requires-clause-is_held_nowhere_else : goal.put-requires-clause-is_held_nowhere_else
put-requires-clause-is_held_nowhere_else g c =
    let self = c.args.self.now in
    let hs = held_in self in
    let new = c.args.new in
    let four = eqb-true (length self.held.items) 4 (sym c.is_full.ensures.value ∙ c.if-is_full.true) in
    let full : length hs ≡ 4 = length-map self.held.items _ ∙ four in
    let there : self.turn < length hs = omega (arith, self.goes_round) in
    apart_set hs self.turn new new self.holds_none_twice there (inl c.requires.is_not_held)

pub returns-then-is_full : goal.returns-then-is_full
returns-then-is_full g c =
    let self = c.args.self.now in
    let means = g.S.PageStore.meaning in
    let m = means self.below in
    let hs = held_in self in
    let new = c.args.new in
    let place = self.turn in
    let four = eqb-true (length self.held.items) 4 (sym c.is_full.ensures.value ∙ c.if-is_full.true) in
    let full : length hs ≡ 4 = length-map self.held.items _ ∙ four in
    let there : place < length hs = omega (arith, self.goes_round) in
    let held : held_in c.put.new.self ≡ set hs place new = c.put.ensures.holds_it_there in
    let used : place < length self.held.items = omega (arith, self.goes_round) in
    let r = c.index-deref-oldest.result in
    let d = r.held in
    let same : d ≡ get_or hs place d =
    ap (λ (entry : Entry). entry.held) (c.index-deref-oldest.is ∙ ap (λ (es : List Entry). get_or es place r) c.deref.ensures.0)
    ∙ sym (get_or-map (λ (entry : Entry). entry.held) self.held.items place r d used) in
    let down = ap means c.put.ensures.keeps_the_store_below ∙ c.bring_down.ensures.stands_there ∙ ap (λ (x : Held). with_page m x.page x.bytes) same in
    record {
      means_that_page =
          ap (λ x. put_in x (means c.put.new.self.below)) held
          ∙ (ap (put_in (set hs place new)) down ∙ swapped hs m place d new self.holds_none_twice there c.requires.is_not_held);
      holds_it = ap (λ x. holds x new.page) held ∙ holds_put hs place new there;
      spares_the_store_below = spares_but_one hs new.page m _ place d full c.requires.is_not_held there down;
    }
