use Rattle.std.proofs.Common.{◌≡◌, ℕ, ◌+◌, ◌-◌, ◌<◌, ◌≤◌, Bool, List, get_or, drop, take, length, ap, ◌∙◌, sym, arith}
use Rattle.std.proofs.lemmas.Grind.{common_steps}
use Rattle.std.proofs.lemmas.List.{get_or-drop, take_rest}
use Rattle.narration.specs.Letters.{in_word, fixed_table}
use Rattle.narration.proofs.runs.run_end.Goals as goal

-- what holds at each place of a rest holds at each place of the whole from there on
from_rest : (bytes rest : List ℕ) (from n : ℕ) (word : Bool) → rest ≡ take (length bytes - from) (drop from bytes) → ((j : ℕ) → j < n → in_word fixed_table (get_or rest j 0) ≡ word) → (k : ℕ) → from ≤ k → k < from + n → in_word fixed_table (get_or bytes k 0) ≡ word
from_rest bytes rest from n word e each k low high =
    let here : from + (k - from) ≡ k = omega arith in
    sym (ap (λ ys. in_word fixed_table (get_or ys (k - from) 0)) (e ∙ take_rest bytes from) ∙ ap (in_word fixed_table) (get_or-drop from bytes (k - from) 0 ∙ ap (λ i. get_or bytes i 0) here)) ∙ each (k - from) (omega arith)

pub returns-clause-all_of_its_sort : goal.returns-clause-all_of_its_sort
returns-clause-all_of_its_sort c =
    from_rest c.args.bytes.now c.iter.result.rest.now c.args.from c.count.result c.args.word c.iter.ensures.rest (λ j h. grind (arith, common_steps))
