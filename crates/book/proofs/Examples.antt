use Rattle.std.proofs.Common.{refl}
use Rattle.keys.specs.Words.{letters_then_zeros}
use Rattle.book.specs.Merging.{merge_answer}
use Rattle.book.specs.Examples.{WorkedPostings}

pub worked_postings : WorkedPostings
unfolding merge_answer letters_then_zeros
worked_postings = record {
  no_rows_change_nothing = λ book. refl;
  posting_7 = refl;
  then_9_gives_9_7 = refl;
  both_in_one_row = refl;
  posting_7_again = refl;
  cancelling_7 = refl;
  cancelling_7_again = refl;
  emptied_and_refilled = refl;
  keys_before_lines = refl;
  lowest_line_first = refl;
  eight_lines_on_62_pages = refl;
  nine_lines_on_62_pages = refl;
  lines_before_pages = refl;
  four_in_one_row = refl;
  head_record_of_57_takes_three = refl;
  head_record_of_58_does_not = refl;
  only_the_head_record = refl;
  emptied_record_goes = refl;
}
