use Rattle.std.proofs.Common.{ℕ, List, Err, sym, ap, ◌∙◌, Bor}
use Rattle.std.proofs.lemmas.Option.{cond_some}
use Rattle.std.proofs.lemmas.Result.{err_from_is_err_and}
use Rattle.searching.proofs.ReadValues.{returned_shows_damage, damage_at}
use Rattle.lookups.proofs.Whole.{refused_on_the_way, looked_up_whole}
use Rattle.lookups.proofs.lookup.Goals as goal

pub returns-in_err-descent-clause-looks_up : goal.returns-in_err-descent-clause-looks_up
returns-in_err-descent-clause-looks_up g c =
    let kind = g.K.KeyKind.kind in
    let both = cond_some (kind.lawful c.args.key.now) c.args.key c.in-Some.part (sym c.in-Some.ensures.is_the_field_if_lawful) in
    let same = sym (ap (λ (r : Bor (List ℕ)). r.now) both.1) in
    let p = err_from_is_err_and c.from_residual.result c.from_residual.ensures.1 in
    let refusal = c.in_err-descent.field-0.0 in
    let only = returned_shows_damage c.from_residual.result refusal (p.1 ∙ ap Err p.2) (damage_at c.descend.result refusal c.descend.ensures.refuses_only_damage c.in_err-descent.was) in
    refused_on_the_way kind (g.S.PageStore.meaning c.args.store.now) c.in-Some.part.now c.args.key.now c.args.list.now (ap kind.lawful same ∙ both.0) same c.descend.ensures.pages_are_few c.descend.result c.descend.ensures.arrives_at_the_leaf_of_the_key
    c.in_err-descent.field-0.0 c.in_err-descent.was c.from_residual.result only c.args.list.now

pub returns-clause-looks_up : goal.returns-clause-looks_up
returns-clause-looks_up g c =
    let kind = g.K.KeyKind.kind in
    let both = cond_some (kind.lawful c.args.key.now) c.args.key c.in-Some.part (sym c.in-Some.ensures.is_the_field_if_lawful) in
    let same = sym (ap (λ (r : Bor (List ℕ)). r.now) both.1) in
    looked_up_whole kind (g.S.PageStore.meaning c.args.store.now) c.in-Some.part.now c.args.key.now c.args.list.now (ap kind.lawful same ∙ both.0) same c.descend.ensures.pages_are_few c.descend.result c.descend.ensures.arrives_at_the_leaf_of_the_key
    c.in_ok-descent.descent c.in_ok-descent.was (g.S.PageStore.meaning c.descend.new.store) c.descend.ensures.keeps_the_meaning c.look_in_leaf.result c.look_in_leaf.ensures.refuses_only_damage c.look_in_leaf.new.list c.look_in_leaf.ensures.shows_what_the_tree_holds
