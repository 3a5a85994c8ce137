-- The batch of narration words that does one line under one word.
use Rattle.std.specs.Prelude.{ℕ, List, [], ◌∷◌}
use Rattle.batches.specs.declared.line.Line.{Line}
use Rattle.batches.specs.Layout.{file_of}

abbrev pub word_file : (key : List ℕ) → Line → List ℕ
word_file key line = file_of 1 (record { key = key; lines = line ∷ [] } ∷ [])
