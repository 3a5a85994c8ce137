use Rattle.std.proofs.Common.{refl}
use Rattle.book.specs.Books.{plain}
use Rattle.book.specs.Entries.{paged}
use Rattle.book.proofs.Merges.{checked_before, all_or_none, books_stay_books}
use Rattle.book.proofs.Paged.{paged_follows, entries_stay_fitting, entries_merge}
use Rattle.book.proofs.Plain.{plain_follows}
use Rattle.book.proofs.Rows.{row_is_one_change, merged_into_empty}
use Rattle.book.proofs.merges_answer_and_leave_as_said.Goals as goal

pub returns : goal.returns
returns c = record { is_true = refl; a_check_before_answers_as_in_turn = checked_before plain plain_follows; a_check_before_answers_as_in_turn_for_entries = checked_before paged paged_follows; merges_are_all_or_none = all_or_none plain plain_follows; merges_are_all_or_none_for_entries = all_or_none paged paged_follows; books_stay_books = books_stay_books; entries_stay_fitting = entries_stay_fitting; entries_merge_as_their_book = entries_merge; a_row_is_one_change = row_is_one_change plain plain_follows; a_row_is_one_change_for_entries = row_is_one_change paged paged_follows; the_empty_book_takes_the_rows = merged_into_empty }
