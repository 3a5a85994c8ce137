use Rattle.std.proofs.Common.{not, length, sym, ap, ◌∙◌, arith, rules, tests}
use Rattle.std.specs.Option.{unwrap_or}
use Rattle.std.specs.List.{position_or_len}
use Rattle.std.proofs.lemmas.Iterator.{YieldsList-from_slice}
use Rattle.std.proofs.lemmas.Iterator.Search.{position_from_yields_List}
use Rattle.keys.specs.Words.{letter}
use Rattle.keys.specs.WordLaws.{front_within}
use Rattle.keys.proofs.Walks.{front_is_position, place_or_end}
use Rattle.keys.proofs.bytes.letters.Goals as goal

pub returns-clause-are_counted : goal.returns-clause-are_counted
returns-clause-are_counted c =
    let xs = c.args.bytes.now in
    let found = position_from_yields_List (λ b. not (letter b)) _ _ c.position.result c.position.ensures.ran (YieldsList-from_slice xs cc) (λ x b q k. search (rules, tests)) in
    let told = front_is_position xs in
    c.unwrap_or.ensures ∙ ap (λ o. unwrap_or o (length xs)) found ∙ place_or_end (position_or_len (λ b. not (letter b)) xs) (length xs) (omega (arith, front_within xs)) ∙ sym told
