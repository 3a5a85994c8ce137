use Rattle.std.proofs.Common.{subst}
use Rattle.narration.specs.Letters.{fixed_table}
use Rattle.narration.specs.Tokens.{WholeRun}
use Rattle.narration.proofs.Whole.{handed_from_drains, whole_run}
use Rattle.narration.proofs.count_tokens.Goals as goal

pub returns-clause-there_is_a_whole_run : goal.returns-clause-there_is_a_whole_run
returns-clause-there_is_a_whole_run c =
    let (tokens, drained, counted) = c.count.ensures.ran in
    let whole = whole_run fixed_table c.new.result tokens c.new.ensures.is_at_the_start (handed_from_drains fixed_table c.new.result tokens drained) in
    (tokens, subst (λ narration. WholeRun fixed_table narration.now tokens) c.new.ensures.reads_the_narration whole, counted)

pub returns-clause-every_run_is_whole : goal.returns-clause-every_run_is_whole
returns-clause-every_run_is_whole c = whole_run fixed_table
