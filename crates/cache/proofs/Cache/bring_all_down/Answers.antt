use Rattle.std.proofs.Common.{◌≡◌, ◌<◌, true, List, length, get_or, sym, ap, ◌∙◌, arith}
use Rattle.std.proofs.lemmas.List.{length-map, get_or-map}
use Rattle.page_store.specs.Meanings.{with_page}
use Rattle.cache.specs.declared.held.Held.{Held}
use Rattle.cache.specs.declared.held.Entry.{Entry}
use Rattle.cache.specs.declared.held.Mark.TheVariants.{Clean}
use Rattle.cache.specs.Holding.{pages_of, put_in, all_apart}
use Rattle.cache.proofs.Holdings.{pages_marked, backed, one_more_down}
use Rattle.cache.proofs.Cache.bring_all_down.Goals as goal

pub loop-entry-preserved : goal.loop-entry-preserved
loop-entry-preserved g c =
    let self = c.args.self.now in
    let means = g.S.PageStore.meaning in
    let m = means self.below in
    let here = means c.loop-entry.self.1.0 in
    let lent = c.deref_mut-entry-items.result.now in
    let hs = pages_of lent in
    let apart : all_apart hs ≡ true = ap (λ (es : List Entry). all_apart (pages_of es)) c.deref_mut-entry-items.ensures.value ∙ self.holds_none_twice in
    let es = c.loop-entry.entry-items in
    let i = c.loop-entry.entry-index in
    let r = c.entry-item.result in
    let d = r.held in
    let within : i < length es = omega arith in
    let there : i < length hs = omega (arith, length-map lent (λ (entry : Entry). entry.held)) in
    let inv = c.loop-entry.invariant in
    let same : (get_or es i r).held ≡ get_or hs i d = sym (get_or-map (λ (entry : Entry). entry.held) es i r d within) ∙ ap (λ (xs : List Held). get_or xs i d) inv.0 in
    let down = c.bring_down.ensures.stands_there ∙ ap (λ (x : Held). with_page here x.page x.bytes) same in (
      pages_marked es i r Clean within ∙ inv.0,
      ap (put_in hs) down ∙ backed hs here i d apart there ∙ inv.1,
      down ∙ ap (λ x. with_page x (get_or hs i d).page (get_or hs i d).bytes) inv.2 ∙ one_more_down hs m i d apart there,
    )
