use Rattle.std.proofs.Common.{ℕ, ◌<◌, eqb, length, ap, ◌∙◌, subst}
use Rattle.std.specs.List.{position, remove}
use Rattle.plain_book.proofs.Positions.{place_some, place_none, removed, nothing_removed}
use Rattle.plain_book.proofs.account.take.Goals as goal

pub returns-in-Some : goal.returns-in-Some
returns-in-Some c =
    let n = c.args.n in
    let list = c.args.list.now.items in
    let place = place_some (eqb n) list c.in-Some.at (c.in-Some.ensures ∙ ap (position (eqb n)) c.as_slice.ensures.value) in
    c.remove.ensures.items ∙ (ap (remove list) place.0 ∙ removed n list (subst (λ (k : ℕ). k < length list) place.0 place.1))

pub returns-in_default : goal.returns-in_default
returns-in_default c = nothing_removed c.args.n c.args.list.now.items (place_none (eqb c.args.n) c.args.list.now.items (c.in_default.ensures ∙ ap (position (eqb c.args.n)) c.as_slice.ensures.value))
