use Rattle.std.proofs.Common.{◌≡◌, ℕ, List, [], ◌∷◌, length, replicate, refl, ap, ◌∙◌, arith, lit≤}
use Rattle.numbers.specs.BigEndian.{written}
use Rattle.nodes.specs.Sorts.{sort_number}
use Rattle.nodes.specs.Layout.{padded}
use Rattle.nodes.specs.PageLaws.{length_padded}
use Rattle.nodes.proofs.Padding.{step_on, blank}
use Rattle.nodes.proofs.places.begun.Goals as goal

pub returns : goal.returns
returns c =
    let two : List ℕ = sort_number c.args.sort ∷ c.args.second ∷ [] in
    let e : c.put.new.page ≡ padded 512 (sort_number c.args.sort ∷ c.args.second ∷ []) =
    step_on 512 0 (replicate 512 0) [] two c.put.new.page (blank 512) refl (lit≤ tt) (c.put.ensures.are_written ∙ ap (λ (n : ℕ). written (replicate 512 0) 0 (n ∷ c.args.second ∷ [])) c.from.ensures) in
    record {
      is_begun = e;
      has_512_bytes = ap length e ∙ length_padded 512 two (lit≤ tt);
      fits = omega arith;
    }
