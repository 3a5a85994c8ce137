use Rattle.std.proofs.Common.{sym, arith}
use Rattle.numbers.proofs.Reading.{number_past, number_whole}
use Rattle.numbers.proofs.U64BigEndian.read_front.Goals as goal

pub returns-in-Some : goal.returns-in-Some
returns-in-Some c =
    let first = c.in-Some.ensures.cases in
    let e = number_whole 8 c.args.bytes.now c.in-Some.field.now first.enough first.same in
    record { is_the_number_there = omega (arith, e, c.from_be_bytes.ensures) }

pub returns-in-None : goal.returns-in-None
returns-in-None c = record { is_the_number_there = sym (number_past 8 c.args.bytes.now 0 c.in-None.ensures.cases) }
