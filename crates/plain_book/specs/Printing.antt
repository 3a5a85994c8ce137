-- What a failure prints as.
use Rattle.std.specs.Prelude.{ℕ, List, ◌++◌, codes}
use Rattle.refusals.specs.Printing.{refusal_text}
use Rattle.plain_book.specs.declared.failure.Failure.{Failure}
use Rattle.plain_book.specs.declared.failure.Failure.TheVariants.{Refuses, OutOfMemory}

abbrev pub failure_text : Failure → List ℕ
failure_text (Refuses refusal) = codes "refused: " ++ (refusal_text refusal ++ codes "; nothing changed")
failure_text OutOfMemory = codes "no memory left"
