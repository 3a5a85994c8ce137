use Rattle.std.proofs.Common.{length, ap, ◌∙◌}
use Rattle.std.proofs.lemmas.Result.{IfOk-weaker}
use Rattle.desk.specs.Drafts.{word_file}
use Rattle.desk.proofs.Files.{file_of_one_line}
use Rattle.desk.proofs.word_batch.Goals as goal

pub returns : goal.returns
returns c =
    let row = c.row.ensures.holds_these in
    let drafted = c.line.ensures.holds_these in
    let key = ap (λ r. r.key.now) row in
    record {
      is_the_file_of_that_line =
          IfOk-weaker c.file.result _ _
          (λ v is. file_of_one_line c.row.result c.line.result c.args.line v.items (ap length key ∙ c.told-key) (ap (λ r. r.first) row) (ap (λ r. r.count) row) (ap (λ l. l.sign) drafted ∙ c.from.ensures) (ap (λ l. l.number) drafted) is ∙ ap (λ k. word_file k c.args.line) key)
          c.file.ensures.is_head_rows_and_lines;
    }
