use Rattle.std.proofs.Common.{◌≡◌, ◌<◌, List, [], ◌∷◌, ◌++◌, length, get_or, Err, Some, None, sym, refl, ap, ◌∙◌, arith, rules}
use Rattle.std.proofs.lemmas.List.{length-map, get_or-map}
use Rattle.std.proofs.lemmas.Result.{err_from_is_err_and}
use Rattle.std.proofs.lemmas.Option.{MatchOption-at_some}
use Rattle.refusals.specs.Refusals.{answer_of}
use Rattle.page_store.specs.Meanings.{Live, with_page, count_of}
use Rattle.page_store.proofs.Laws.{read_answers, read_fills, read_was_live, with_same}
use Rattle.cache.specs.declared.held.Entry.{Entry}
use Rattle.cache.specs.declared.held.Held.{Held}
use Rattle.cache.specs.Holding.{put_in, holds}
use Rattle.cache.specs.Caching.{held_in}
use Rattle.cache.proofs.Holdings.{place_found, count_in, page_found, page_missed, holding_more, read_missed, fill_missed}
use Rattle.cache.proofs.calls.CachePageStore.read.Goals as goal

pub returns-in_err-reach : goal.returns-in_err-reach
returns-in_err-reach g c = let l = count_in (held_in c.args.self.now) (g.S.PageStore.meaning c.args.self.now.below) in search rules

pub returns-in-Some : goal.returns-in-Some
returns-in-Some g c =
    let self = c.args.self.now in
    let means = g.S.PageStore.meaning in
    let m = means self.below in
    let hs = held_in self in
    let n = c.args.page in
    let k = put_in hs m in
    let l = count_in hs m in
    let old = c.args.buffer.now in
    let there = c.in_ok-reach.ensures.accepts_only_a_page_that_is_there in
    let here : n < count_of k = omega (arith, c.count.ensures.is_the_count) in
    let i = c.in-Some.place in
    let h = c.index-deref-place.result in
    let at = place_found self.held.items n (Some i) c.in-Some.ensures.is_the_first in
    let wide = length-map self.held.items (λ (entry : Entry). entry.held) in
    let p = page_found hs m n i h.held self.holds_none_twice at.0 (at.1 h.held) (omega arith) in
    let same : (get_or c.deref.result.now i h).held ≡ get_or hs i h.held =
    ap (λ (es : List Entry). (get_or es i h).held) c.deref.ensures.0 ∙ sym (get_or-map (λ (entry : Entry). entry.held) self.held.items i h h.held (omega arith)) in
    record {
      answers_by_the_meaning = read_answers k n old there.0 here (Live (get_or hs i h.held).bytes) p;
      keeps_the_meaning = refl;
      fills_the_buffer = c.copy_from_slice.ensures.after ∙ ap (λ (x : Held). x.bytes) same ∙ read_fills k n old there.0 here (Live (get_or hs i h.held).bytes) p;
      keeps_the_store_below = refl;
    }

pub returns-in_err-read-in-None : goal.returns-in_err-read-in-None
returns-in_err-read-in-None g c =
    let self = c.args.self.now in
    let means = g.S.PageStore.meaning in
    let m = means self.below in
    let hs = held_in self in
    let n = c.args.page in
    let k = put_in hs m in
    let l = count_in hs m in
    let missed = page_missed hs m n (place_found c.args.self.now.held.items c.args.page None c.in-None.ensures.is_the_first) in
    let out = c.from_residual-in_err-read-in-None in
    let r = err_from_is_err_and out.result out.ensures.1 in
    let same = c.read.ensures.keeps_the_meaning in
    let answer = ap answer_of (r.1 ∙ (ap Err r.2 ∙ sym c.in_err-read-in-None.was)) in
    record {
      answers_by_the_meaning = answer ∙ (c.read.ensures.answers_by_the_meaning ∙ read_missed m k n (length c.args.buffer.now) l missed);
      keeps_the_meaning = ap (put_in hs) same;
      fills_the_buffer = c.read.ensures.fills_the_buffer ∙ fill_missed m k n c.args.buffer.now l missed;
      keeps_the_store_below = same;
    }

pub returns-then-not-is_full : goal.returns-then-not-is_full
returns-then-not-is_full g c =
    let self = c.args.self.now in
    let means = g.S.PageStore.meaning in
    let m = means self.below in
    let hs = held_in self in
    let n = c.args.page in
    let k = put_in hs m in
    let l = count_in hs m in
    let old = c.args.buffer.now in
    let missed = page_missed hs m n (place_found c.args.self.now.held.items c.args.page None c.in-None.ensures.is_the_first) in
    let told = c.in_ok-read-in-None.ensures in
    let same = told.keeps_the_meaning in
    let new = c.hold.result in
    let whole = (MatchOption-at_some _ _ c.unwrap.result c.unwrap.ensures c.as_array.ensures.cases).same in
    let answers = told.answers_by_the_meaning ∙ read_missed m k n (length old) l missed in
    let fills = told.fills_the_buffer ∙ fill_missed m k n old l missed in
    let live = read_was_live k n old c.read.new.buffer answers fills in
    let below = ap means c.add.ensures.keeps_the_store_below ∙ same in
    let is = c.hold.ensures.is_that_page in
    record {
      answers_by_the_meaning = answers;
      keeps_the_meaning =
          ap (λ x. put_in x (means c.add.new.self.below)) c.add.ensures.holds_it_too
          ∙ (ap (put_in (hs ++ (new ∷ []))) below
          ∙ (holding_more hs new m (ap (holds hs) is ∙ (place_found c.args.self.now.held.items c.args.page None c.in-None.ensures.is_the_first))
          ∙ (ap (λ x. with_page k x new.bytes) is ∙ (ap (with_page k n) (c.hold.ensures.has_its_bytes ∙ whole) ∙ with_same k n c.read.new.buffer live))));
      fills_the_buffer = fills;
      keeps_the_store_below = below;
    }

pub returns-else-not-is_full : goal.returns-else-not-is_full
returns-else-not-is_full g c =
    let self = c.args.self.now in
    let means = g.S.PageStore.meaning in
    let m = means self.below in
    let hs = held_in self in
    let n = c.args.page in
    let k = put_in hs m in
    let l = count_in hs m in
    let old = c.args.buffer.now in
    let missed = page_missed hs m n (place_found c.args.self.now.held.items c.args.page None c.in-None.ensures.is_the_first) in
    let told = c.in_ok-read-in-None.ensures in
    let same = told.keeps_the_meaning in
    record {
      answers_by_the_meaning = told.answers_by_the_meaning ∙ read_missed m k n (length old) l missed;
      keeps_the_meaning = ap (put_in hs) same;
      fills_the_buffer = told.fills_the_buffer ∙ fill_missed m k n old l missed;
      keeps_the_store_below = same;
    }

pub add-requires-clause-is_not_held : goal.add-requires-clause-is_not_held
add-requires-clause-is_not_held g c =
    ap (holds (held_in c.args.self.now)) c.hold.ensures.is_that_page ∙ place_found c.args.self.now.held.items c.args.page None c.in-None.ensures.is_the_first
