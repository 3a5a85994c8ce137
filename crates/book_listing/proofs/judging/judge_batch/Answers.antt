use Rattle.std.proofs.Common.{arith}
use Rattle.batches.specs.Reading.{kind_code, rows_in}
use Rattle.book_listing.proofs.Judged.{too_many, all_well}
use Rattle.book_listing.proofs.judging.judge_batch.Goals as goal

pub returns-then-from-gt-FREE : goal.returns-then-from-gt-FREE
returns-then-from-gt-FREE c =
    let bytes = c.args.batch.now.bytes.now in
    too_many (kind_code bytes) (rows_in bytes) c.in_ok-check_kind_and_keys.ensures.refused_for_the_kind_then_for_the_first_bad_row c.in_ok-refuse_cancelling.ensures (omega (arith, c.line_count.ensures.is_the_number_of_lines))

pub returns : goal.returns
returns c =
    let bytes = c.args.batch.now.bytes.now in
    all_well (kind_code bytes) (rows_in bytes) c.in_ok-check_kind_and_keys.ensures.refused_for_the_kind_then_for_the_first_bad_row c.in_ok-refuse_cancelling.ensures (omega (arith, c.line_count.ensures.is_the_number_of_lines))
