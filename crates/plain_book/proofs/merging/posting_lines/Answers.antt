use Rattle.std.proofs.Common.{◌∙◌, rules, tests}
use Rattle.std.proofs.lemmas.Iterator.Consumers.{count_from_yields_List, YieldsList-from_filter, YieldsList-from_first}
use Rattle.batches.specs.Layout.{lines_of}
use Rattle.batches.specs.Reading.{rows_in}
use Rattle.plain_book.proofs.LineByLine.{posts, posting_counted}
use Rattle.plain_book.proofs.merging.posting_lines.Goals as goal

pub returns-clause-are_counted : goal.returns-clause-are_counted
returns-clause-are_counted c =
    let rows = rows_in c.args.batch.now.bytes.now in
    count_from_yields_List c.filter.result _ c.count.ensures.ran
    (YieldsList-from_filter _ posts (YieldsList-from_first (λ x. x) (λ lines. lines) (lines_of rows) (c.filter.ensures.source ∙ c.lines.ensures.are_the_lines)) c.filter.ensures.closure (λ x b q k. search (rules, tests)))
    ∙ posting_counted rows
