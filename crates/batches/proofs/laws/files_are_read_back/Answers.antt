use Rattle.std.proofs.Common.{refl}
use Rattle.batches.proofs.Filing.{rows_of_file}
use Rattle.batches.proofs.laws.files_are_read_back.Goals as goal

pub returns : goal.returns
returns c =
    record { is_true = refl; read_back = λ code rows fits. record { its_kind_code = refl; its_rows = rows_of_file code rows fits } }
