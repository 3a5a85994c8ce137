-- The reversal of a batch: the sign byte of each line exchanged, and no other byte.
use Rattle.std.specs.Prelude.{◌≡◌, ℕ, zero, suc, ◌+◌, ◌*◌, true, cond, List, [], ◌∷◌, ◌++◌, map, take, drop, ◌==◌, slice_index, slice_set}
use Rattle.std.specs.List.{flat_map}
use Rattle.batches.specs.declared.line.Sign.{Sign}
use Rattle.batches.specs.declared.line.Sign.TheVariants.{Posting, Cancelling}
use Rattle.batches.specs.declared.line.Line.{Line}
use Rattle.batches.specs.Layout.{Row}
use Rattle.batches.specs.Reading.{kind_code, row_count, line_count, pieces, rows_in}
use Rattle.batches.specs.Opening.{opens}

-- + for -, and - for +
abbrev pub other_byte : ℕ → ℕ
other_byte byte = cond (byte == 43) 45 (cond (byte == 45) 43 byte)

-- a line's nine bytes with the first exchanged
abbrev pub turned : List ℕ → List ℕ
turned [] = []
turned (sign ∷ number) = other_byte sign ∷ number

-- the head and the rows as they are, then each line with its sign byte exchanged
unfoldable pub reversal : List ℕ → List ℕ
reversal bytes =
    take (16 + 32 * row_count bytes) bytes ++ flat_map turned (pieces 9 (line_count bytes) (drop (16 + 32 * row_count bytes) bytes))

-- the same place by place: the byte at a place and at every ninth place after it exchanged, so many of them
abbrev pub turned_from : (at count : ℕ) → List ℕ → List ℕ
turned_from at zero bytes = bytes
turned_from at (suc count) bytes = turned_from (at + 9) count (slice_set bytes at (other_byte (slice_index bytes at)))

-- the same of rows
abbrev pub other_sign : Sign → Sign
other_sign Posting = Cancelling
other_sign Cancelling = Posting

abbrev pub reversed_line : Line → Line
reversed_line line = record { sign = other_sign line.sign; number = line.number }

abbrev pub reversed_row : Row → Row
reversed_row row = record { key = row.key; lines = map reversed_line row.lines }

-- what the reversal of an open batch is
pub record Reverses (bytes reversed : List ℕ) : Type 0 where
  pub it_opens : opens reversed ≡ true
  pub keeps_the_kind : kind_code reversed ≡ kind_code bytes
  pub its_rows_are_the_rows_with_signs_exchanged : rows_in reversed ≡ map reversed_row (rows_in bytes)
  pub its_reversal_is_the_batch : reversal reversed ≡ bytes
