use Rattle.std.proofs.Common.{◌≡◌, not, sym, ◌∙◌, rules, tests}
use Rattle.std.specs.List.{position}
use Rattle.std.proofs.lemmas.Iterator.Consumers.{YieldsList-from_first}
use Rattle.std.proofs.lemmas.Iterator.Search.{position_from_yields_List}
use Rattle.batches.specs.declared.line.Line.{Line}
use Rattle.batches.specs.Layout.{lines_of}
use Rattle.batches.specs.Reading.{rows_in}
use Rattle.book.specs.Merging.{is_posting}
use Rattle.book_listing.proofs.Judged.{first_cancelling, none_cancelling}
use Rattle.book_listing.proofs.judging.refuse_cancelling.Goals as goal

pub returns-in-Some : goal.returns-in-Some
returns-in-Some c =
    let rows = rows_in c.args.batch.now.bytes.now in
    let found : c.position.result ≡ position (λ (line : Line). not (is_posting line.sign)) (lines_of rows) = position_from_yields_List (λ (line : Line). not (is_posting line.sign)) _ _ c.position.result c.position.ensures.ran (YieldsList-from_first (λ x. x) (λ lines. lines) (lines_of rows) c.lines.ensures.are_the_lines) (λ x b q k. search (rules, tests)) in
    first_cancelling rows c.in-Some.j (sym found ∙ c.in-Some.is)

pub returns-in-None : goal.returns-in-None
returns-in-None c =
    let rows = rows_in c.args.batch.now.bytes.now in
    let found : c.position.result ≡ position (λ (line : Line). not (is_posting line.sign)) (lines_of rows) = position_from_yields_List (λ (line : Line). not (is_posting line.sign)) _ _ c.position.result c.position.ensures.ran (YieldsList-from_first (λ x. x) (λ lines. lines) (lines_of rows) c.lines.ensures.are_the_lines) (λ x b q k. search (rules, tests)) in
    none_cancelling rows (sym found ∙ c.in-None.is)
