use Rattle.std.proofs.Common.{◌≡◌, ℕ, eqb, sym, ◌∙◌, rules, tests}
use Rattle.std.specs.List.{position}
use Rattle.std.proofs.lemmas.Iterator.{YieldsList-from_slice}
use Rattle.std.proofs.lemmas.Iterator.Search.{position_from_yields_List}
use Rattle.book_listing.proofs.Cutting.{word_ends, word_fills}
use Rattle.book_listing.proofs.writing.word_of.Goals as goal

pub returns-in-Some : goal.returns-in-Some
returns-in-Some c =
    let key = c.args.key.now in
    let found : c.position.result ≡ position (λ (b : ℕ). eqb b 0) key = position_from_yields_List (λ b. eqb b 0) _ _ c.position.result c.position.ensures.ran (YieldsList-from_slice key c.iter.ensures.rest) (λ x b q k. search (rules, tests)) in
    word_ends key c.in-Some.end (sym found ∙ c.in-Some.is)

pub returns-in-None : goal.returns-in-None
returns-in-None c =
    let key = c.args.key.now in
    let found : c.position.result ≡ position (λ (b : ℕ). eqb b 0) key = position_from_yields_List (λ b. eqb b 0) _ _ c.position.result c.position.ensures.ran (YieldsList-from_slice key c.iter.ensures.rest) (λ x b q k. search (rules, tests)) in
    word_fills key (sym found ∙ c.in-None.is)
