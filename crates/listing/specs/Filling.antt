-- Rows of a listing at their places in a buffer, counted from the first row that is not skipped.
use Rattle.std.specs.Prelude.{ℕ, ◌+◌, ◌-◌, ◌*◌, ◌/◌, max, Bool, cond, ◌&&◌, List, [], ◌∷◌, nat_le, nat_lt}
use Rattle.numbers.specs.BigEndian.{written}
use Rattle.keys.specs.Kinds.{Field}
use Rattle.book.specs.Looking.{Listed, rows_under, listed_bytes}

-- the rows of a key
abbrev pub rows_of : Field → (postings : List ℕ) → List Listed
rows_of key postings = rows_under (record { key = key; value = postings })

-- whether a row is shown: it is not skipped, and fits whole into a buffer of so many bytes
abbrev pub is_shown : (skip room at : ℕ) → Bool
is_shown skip room at = nat_le skip at && nat_lt (at - skip) (room / 32)

-- whether a row and all after it are past those that are shown
abbrev pub is_past : (skip room at : ℕ) → Bool
is_past skip room at = nat_le skip at && nat_le (room / 32) (at - skip)

-- whether one of the rows from one up to another is shown: the first that is not skipped tells
abbrev pub is_any_shown : (skip room from to : ℕ) → Bool
is_any_shown skip room from to = nat_lt (max from skip) to && is_shown skip room (max from skip)

-- a row at its place, if it is not skipped; where it does not fit, nothing is written
unfoldable pub row_put : (skip at : ℕ) → Listed → List ℕ → List ℕ
row_put skip at row buffer = cond (nat_le skip at) (written buffer (32 * (at - skip)) (listed_bytes row)) buffer

-- rows one after another
abbrev pub filled : (skip at : ℕ) → List Listed → List ℕ → List ℕ
filled skip at [] buffer = buffer
filled skip at (row ∷ rows) buffer = filled skip (at + 1) rows (row_put skip at row buffer)
