use Rattle.numbers.proofs.Spelling.{bytes_from_cells}
use Rattle.plain_book.proofs.LineByLine.{open_rows_rise}
use Rattle.plain_book.proofs.merging.numbers_rise.Goals as goal

pub returns : goal.returns
returns c = open_rows_rise c.args.bytes.now (bytes_from_cells c.args.bytes.now (λ i. (c.type_inv.bytes i).fits)) c.requires
