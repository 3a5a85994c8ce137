-- What is left of the rows of an open batch while they are read one after another.
use Rattle.std.specs.Prelude.{◌≡◌, ℕ, ◌+◌, ◌≤◌, true, List, map, length}
use Rattle.std.specs.List.{AllPass}
use Rattle.batches.specs.Layout.{Row}
use Rattle.batches.specs.Reading.{content_of, cell_of, rows_of}
use Rattle.batches.specs.Opening.{follow, has_sign}

-- the rows that are left, and the number of the first line of the next
pub record RowsLeft : Type 0 where
  pub first : ℕ
  pub rows : List Row

-- what pieces of 32 and of nine bytes still hold
abbrev pub rows_left : (first : ℕ) → (rows lines : List (List ℕ)) → RowsLeft
rows_left first rows lines = record { first = first; rows = rows_of (map content_of rows) (map cell_of lines) }

-- the rows follow one another up to the last line, and each line has a sign
pub record RowsGoOn (first : ℕ) (rows lines : List (List ℕ)) : Type 0 where
  pub follow_to_the_last_line : follow first (map content_of rows) (first + length lines) ≡ true
  pub have_signs : AllPass has_sign (map cell_of lines)
  pub few_lines : first + length lines ≤ 1024
