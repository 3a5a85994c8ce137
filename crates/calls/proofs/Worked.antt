-- The worked examples, computed from the bytes on. Assumes nothing.
use Rattle.std.proofs.Common.{refl, arith, eq-eqb, le-leb}
use Rattle.numbers.specs.BigEndian.{number_at}
use Rattle.keys.specs.Kinds.{Kind}
use Rattle.keys.specs.Words.{letters_then_zeros}
use Rattle.keys.proofs.Worked.{worked_comparisons}
use Rattle.batches.specs.Reading.{contents_in, cells_in, rows_in}
use Rattle.batches.specs.Opening.{open_answer}
use Rattle.book.specs.Merging.{check_answer}
use Rattle.tree.proofs.Highest.{seven_levels, at_most_six}
use Rattle.calls.specs.Worked.{ChangesNothing, SevenThenNine, CancelledTwice, NumbersEnd, WorkedExamples}

changes_nothing : (kind : Kind) → ChangesNothing kind
unfolding open_answer contents_in cells_in rows_in number_at check_answer
changes_nothing kind = record {
  is_16_bytes_that_open = record { has_so_many_bytes = refl; opens = refl };
  leaves_every_page = λ before after answer merges. merges.no_rows_change_nothing refl;
  is_accepted_without_effect = λ free entries. rw (eq-eqb kind.code kind.code refl, le-leb 0 free (omega arith));
}

seven_then_nine : SevenThenNine
unfolding open_answer contents_in cells_in rows_in number_at check_answer letters_then_zeros
seven_then_nine = record {
  seven_is_57_bytes_that_open = record { has_so_many_bytes = refl; opens = refl };
  nine_is_57_bytes_that_open = record { has_so_many_bytes = refl; opens = refl };
  seven_is_accepted = refl;
  nine_is_accepted_after_it = refl;
  lookup_answers_two = refl;
  lookup_writes_9_then_7 = λ old older. refl;
}

cancelled_twice : CancelledTwice
unfolding open_answer contents_in cells_in rows_in number_at check_answer letters_then_zeros
cancelled_twice = record {
  is_57_bytes_that_open = record { has_so_many_bytes = refl; opens = refl };
  the_first_is_accepted = refl;
  the_second_is_absent_at_line_0 = refl;
}

numbers_end : NumbersEnd
unfolding open_answer contents_in cells_in rows_in number_at
numbers_end = record { the_largest_opens = refl; zero_is_refused = refl; one_above_the_largest_is_refused = refl }

pub worked_examples : WorkedExamples
unfolding contents_in cells_in rows_in number_at check_answer letters_then_zeros
worked_examples = record {
  the_empty_batch_of_the_kind_changes_nothing = changes_nothing;
  posting_7_then_9_shows_9_then_7 = seven_then_nine;
  posting_7_again_stands_at_line_0 = refl;
  cancelling_7_twice_is_absent_at_line_0 = cancelled_twice;
  words_and_account_days_compare = worked_comparisons;
  numbers_run_from_1_to_below_2_to_the_63 = numbers_end;
  height_7_needs_65536_leaves = seven_levels;
  which_no_store_has_beside_the_header = at_most_six;
}
