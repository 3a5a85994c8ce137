use Rattle.std.proofs.Common.{sym, ◌∙◌, arith}
use Rattle.numbers.proofs.Spelling.{two_bytes_of}
use Rattle.numbers.proofs.Writing.{written_front, written_past}
use Rattle.numbers.proofs.U16BigEndian.write_front.Goals as goal

pub returns-then-bytes-ge-WIDTH-clause-is_written_there : goal.returns-then-bytes-ge-WIDTH-clause-is_written_there
returns-then-bytes-ge-WIDTH-clause-is_written_there c =
    written_front 2 c.args.self c.args.bytes.now c.copy_from_slice.new.self (omega arith)
    (c.copy_from_slice.ensures.after ∙ c.to_be_bytes.ensures ∙ sym (two_bytes_of c.args.self))

pub returns-else-bytes-ge-WIDTH-clause-is_written_there : goal.returns-else-bytes-ge-WIDTH-clause-is_written_there
returns-else-bytes-ge-WIDTH-clause-is_written_there c = written_past 2 c.args.self c.args.bytes.now 0 (omega arith)
