-- What a caller with room enough finds in its buffer. Assumes nothing.
use Rattle.std.proofs.Common.{◌≡◌, ℕ, ◌-◌, ◌≤◌, Bool, true, cond, leb, List, length, take, drop, refl, ap, ◌∙◌, arith}
use Rattle.std.proofs.lemmas.List.{length-append, length-drop, take_at}
use Rattle.std.proofs.lemmas.Bool.{le-leb}
use Rattle.refusals.specs.Refusals.{Accepted, wants, and_then}
use Rattle.book_listing.specs.Text.{filled}

module _ (count : ℕ) (text before after : List ℕ) (room : 364 ≤ length before) (answer : Accepted count ≡ and_then (wants (leb 364 (length before)) 13 (length before)) (Accepted (length text))) (left : after ≡ cond (leb 364 (length before)) (filled text before) before) where
  enough : leb 364 (length before) ≡ true
  enough = le-leb 364 (length before) room

  count_is : count ≡ length text
  count_is =
      let e = answer ∙ ap (λ (t : Bool). and_then (wants t 13 (length before)) (Accepted (length text))) enough in
      cc

  after_is : after ≡ filled text before
  after_is = left ∙ ap (λ (t : Bool). cond t (filled text before) before) enough

  pub count_within : length after ≡ length before → count ≤ length after
  count_within same = omega (arith, count_is, ap length after_is, length-append text (drop (length text) before), length-drop (length text) before)

  pub text_found : take (count - 0) after ≡ text
  text_found =
      let whole : count - 0 ≡ length text = omega (arith, count_is) in
      ap (λ (n : ℕ). take n after) whole ∙ ap (take (length text)) after_is ∙ take_at text (drop (length text) before) (length text) refl
