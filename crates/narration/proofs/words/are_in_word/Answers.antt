use Rattle.std.proofs.Common.{◌&&◌, refl, ◌∙◌, rules, tests}
use Rattle.std.specs.List.{list_all}
use Rattle.std.proofs.lemmas.Iterator.{YieldsList-from_slice}
use Rattle.std.proofs.lemmas.Iterator.Search.{all_from_yields_List}
use Rattle.std.proofs.lemmas.List.Recursion.{same_from_clauses}
use Rattle.narration.specs.Letters.{in_word, all_in_word, fixed_table}
use Rattle.narration.proofs.words.are_in_word.Goals as goal

pub returns : goal.returns
returns c =
    let xs = c.args.bytes.now in
    record { tells_words = all_from_yields_List (in_word fixed_table) _ _ c.all.result c.all.ensures.ran (YieldsList-from_slice xs cc) (λ x b q k. search (rules, tests)) ∙ same_from_clauses (list_all (in_word fixed_table)) (all_in_word fixed_table) (λ b t. in_word fixed_table b && t) refl (λ _ _. refl) (λ _ _. refl) xs }
