use Rattle.std.proofs.Common.{refl}
use Rattle.std.specs.Fmt.{digits}
use Rattle.numbers.specs.BigEndian.{number_at}
use Rattle.keys.specs.Words.{letters_then_zeros}
use Rattle.batches.specs.Reading.{contents_in, cells_in, rows_in}
use Rattle.batches.specs.Opening.{open_answer}
use Rattle.book.specs.Merging.{merge_answer}
use Rattle.book_listing.specs.Text.{booklist_answer, booklist_text}
use Rattle.book_listing.specs.Worked.{WorkedTexts}

pub worked_texts : WorkedTexts
unfolding booklist_text booklist_answer open_answer contents_in cells_in rows_in number_at merge_answer letters_then_zeros digits
worked_texts = record {
  rent_has_57_bytes = refl;
  rent_7 = refl;
  no_rows = refl;
  another_kind = refl;
  no_bytes = refl;
  newest_first = refl;
  nothing_to_cancel = refl;
  nine_posting_lines = refl;
}
