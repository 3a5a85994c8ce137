use Rattle.std.proofs.Common.{◌≡◌, ℕ, ◌≤◌, ◌&&◌, List, [], ◌∷◌, length, take, ap, ◌∙◌, arith, rules, tests}
use Rattle.std.specs.List.{list_all}
use Rattle.std.proofs.lemmas.Iterator.{YieldsList-from_slice}
use Rattle.std.proofs.lemmas.Iterator.Search.{all_from_yields_List}
use Rattle.std.proofs.Math.Bool.{and-true}
use Rattle.branch_kind.specs.Vouchers.{capital, capitals}
use Rattle.branch_kind.proofs.is_branch.Goals as goal

first_four : (f : List ℕ) → 4 ≤ length f → list_all capital (take 4 f) ≡ capitals f
first_four [] h = absurd (omega arith)
first_four (a ∷ []) h = absurd (omega arith)
first_four (a ∷ (b ∷ [])) h = absurd (omega arith)
first_four (a ∷ (b ∷ (d ∷ []))) h = absurd (omega arith)
first_four (a ∷ (b ∷ (d ∷ (e ∷ f)))) h = ap (λ t. capital a && (capital b && (capital d && t))) (and-true (capital e))

pub returns : goal.returns
returns c =
    let f = c.args.field.now in
    record { tells_branches = all_from_yields_List capital _ _ c.all.result c.all.ensures.ran (YieldsList-from_slice (take 4 f) (c.iter.ensures.rest)) (λ x b q k. search (rules, tests)) ∙ first_four f (omega arith) }
