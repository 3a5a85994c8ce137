use Rattle.std.proofs.Common.{ℕ, ◌<◌, set, sym, refl, ap, ◌∙◌, subst, inr, Some, None, arith, rules}
use Rattle.std.proofs.lemmas.Result.{err_from_is_err_and}
use Rattle.std.proofs.lemmas.Option.{MatchOption-at_some}
use Rattle.refusals.specs.Refusals.{number_of, place_of, answer_of}
use Rattle.page_store.specs.Meanings.{with_page, count_of}
use Rattle.page_store.proofs.Laws.{never, write_answers, write_leaves}
use Rattle.cache.specs.Holding.{put_in, holds, Spares}
use Rattle.cache.specs.Caching.{held_in}
use Rattle.cache.proofs.Holdings.{place_found, count_in, spares_all, apart_set, holding_other, holds_put}
use Rattle.cache.proofs.calls.CachePageStore.write.Goals as goal

pub returns-in_err-reach : goal.returns-in_err-reach
returns-in_err-reach g c =
    let self = c.args.self.now in
    let means = g.S.PageStore.meaning in
    let m = means self.below in
    let hs = held_in self in
    let n = c.args.page in
    let k = put_in hs m in
    let l = count_in hs m in
    let r = err_from_is_err_and c.from_residual.result c.from_residual.ensures.1 in
    record {
      answers_by_the_meaning = search rules;
      changes_that_page = search rules;
      leaves_its_page_held = λ e. absurd (never (number_of r.0) (place_of r.0) (sym (ap answer_of r.1) ∙ e));
      spares_the_store_below = spares_all hs n m m refl;
    }

pub put-requires : goal.put-requires
put-requires g c =
    let self = c.args.self.now in
    let hs = held_in self in
    let i = c.in-Some.place in
    let new = c.hold-new.result in
    let at = place_found self.held.items c.args.page (Some i) c.in-Some.ensures.is_the_first in
    record {
      is_used = at.0;
      is_held_nowhere_else = apart_set hs i new new self.holds_none_twice at.0 (inr (at.1 new ∙ sym c.hold-new.ensures.is_that_page));
    }

pub returns-in-Some : goal.returns-in-Some
returns-in-Some g c =
    let self = c.args.self.now in
    let means = g.S.PageStore.meaning in
    let m = means self.below in
    let hs = held_in self in
    let n = c.args.page in
    let k = put_in hs m in
    let l = count_in hs m in
    let new = c.args.buffer.now in
    let there = c.in_ok-reach.ensures.accepts_only_a_page_that_is_there in
    let here : n < count_of k = omega (arith, c.count.ensures.is_the_count) in
    let i = c.in-Some.place in
    let page = c.hold-new.result in
    let whole = (MatchOption-at_some _ _ c.unwrap.result c.unwrap.ensures c.as_array.ensures.cases).same in
    let at = place_found self.held.items c.args.page (Some i) c.in-Some.ensures.is_the_first in
    let is = c.hold-new.ensures.is_that_page in
    let held = c.put.ensures.holds_it_there in
    let same = ap means c.put.ensures.keeps_the_store_below in
    record {
      answers_by_the_meaning = write_answers k n new there.0 here;
      changes_that_page =
          ap (λ x. put_in x (means c.put.new.self.below)) held
          ∙ (ap (put_in (set hs i page)) same
          ∙ (holding_other hs m i page page self.holds_none_twice at.0 (at.1 page ∙ sym is)
          ∙ (ap (λ x. with_page k x page.bytes) is ∙ (ap (with_page k n) (c.hold-new.ensures.has_its_bytes ∙ whole) ∙ write_leaves k n new there.0 here))));
      leaves_its_page_held = λ e. ap (λ x. holds x n) held ∙ (ap (holds (set hs i page)) (sym is) ∙ holds_put hs i page at.0);
      spares_the_store_below = spares_all hs n m _ same;
    }

pub returns-in-None : goal.returns-in-None
returns-in-None g c =
    let self = c.args.self.now in
    let means = g.S.PageStore.meaning in
    let m = means self.below in
    let hs = held_in self in
    let n = c.args.page in
    let k = put_in hs m in
    let l = count_in hs m in
    let new = c.args.buffer.now in
    let there = c.in_ok-reach.ensures.accepts_only_a_page_that_is_there in
    let here : n < count_of k = omega (arith, c.count.ensures.is_the_count) in
    let page = c.hold-new.result in
    let whole = (MatchOption-at_some _ _ c.unwrap.result c.unwrap.ensures c.as_array.ensures.cases).same in
    let is = c.hold-new.ensures.is_that_page in
    let after = c.take_in.new.self in
    record {
      answers_by_the_meaning = write_answers k n new there.0 here;
      changes_that_page =
          c.take_in.ensures.means_that_page
          ∙ (ap (λ x. with_page k x page.bytes) is ∙ (ap (with_page k n) (c.hold-new.ensures.has_its_bytes ∙ whole) ∙ write_leaves k n new there.0 here));
      leaves_its_page_held = λ e. ap (holds (held_in after)) (sym is) ∙ c.take_in.ensures.holds_it;
      spares_the_store_below = let P : ℕ → Type 0 = λ x. Spares hs x m (means after.below) in subst P is c.take_in.ensures.spares_the_store_below;
    }

pub take_in-requires : goal.take_in-requires
take_in-requires g c =
    record { is_not_held = ap (holds (held_in c.args.self.now)) c.hold-new.ensures.is_that_page ∙ place_found c.args.self.now.held.items c.args.page None c.in-None.ensures.is_the_first }
