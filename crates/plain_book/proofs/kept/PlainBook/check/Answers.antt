use Rattle.std.proofs.Common.{sym}
use Rattle.batches.specs.Reading.{rows_in, kind_code}
use Rattle.plain_book.proofs.Places.{on_any_ok}
use Rattle.plain_book.proofs.LineByLine.{keys_lawful}
use Rattle.plain_book.proofs.kept.PlainBook.check.Goals as goal

pub check_lines-requires : goal.check_lines-requires
check_lines-requires g c =
    let bytes = c.args.batch.now.bytes.now in
    keys_lawful g.K.KeyKind.kind (kind_code bytes) (rows_in bytes) (sym c.in_ok-check_kind_and_keys.ensures.refused_for_the_kind_then_for_the_first_bad_row)

pub returns-clause-keys_are_lawful : goal.returns-clause-keys_are_lawful
returns-clause-keys_are_lawful g c =
    let bytes = c.args.batch.now.bytes.now in
    on_any_ok c.check_pages.result (keys_lawful g.K.KeyKind.kind (kind_code bytes) (rows_in bytes) (sym c.in_ok-check_kind_and_keys.ensures.refused_for_the_kind_then_for_the_first_bad_row))
