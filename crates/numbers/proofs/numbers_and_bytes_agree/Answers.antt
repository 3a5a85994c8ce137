use Rattle.std.proofs.Common.{length, refl}
use Rattle.numbers.proofs.Spelling.{number_bytes_of, bytes_of_number}
use Rattle.numbers.proofs.numbers_and_bytes_agree.Goals as goal

pub returns : goal.returns
returns c = record { is_true = refl; agree = (number_bytes_of, λ bytes real. bytes_of_number (length bytes) bytes refl real) }
