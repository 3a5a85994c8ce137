-- What stands in the places of any 512 bytes, a count outside its bounds being moved to the nearest. A page is an image exactly if it is the image of what stands in it.
use Rattle.std.specs.Prelude.{ℕ, zero, suc, ◌-◌, min, max, List, [], ◌∷◌, map, take, drop, slice_index}
use Rattle.numbers.specs.BigEndian.{number_of, part, number_at}
use Rattle.nodes.specs.Layout.{HeaderPage, InnerRow, InnerPage, LeafEntry, LeafPage, RecordPage, FreePage}

-- bytes cut into so many pieces of one width
abbrev pub pieces : (width count : ℕ) → List ℕ → List (List ℕ)
pieces width zero bytes = []
pieces width (suc count) bytes = take width bytes ∷ pieces width count (drop width bytes)

unfoldable pub header_in : List ℕ → HeaderPage
header_in bytes =
    record {
      kind_code = slice_index bytes 1;
      height = number_at 2 bytes 2;
      root = number_at 4 bytes 4;
      first_free = number_at 4 bytes 8;
      free = number_at 4 bytes 12;
      keys = number_at 4 bytes 16;
      pages = number_at 4 bytes 20;
    }

unfoldable pub row_in : List ℕ → InnerRow
row_in piece = record { key = part 4 24 piece; child = number_at 4 piece 0 }

unfoldable pub inner_in : List ℕ → InnerPage
inner_in bytes = record { first = number_at 4 bytes 32; rows = map row_in (pieces 28 (min (number_at 2 bytes 2 - 1) 15) (drop 60 bytes)) }

unfoldable pub entry_in : List ℕ → LeafEntry
entry_in piece =
    record {
      key = take 24 piece;
      inline = map number_of (pieces 8 (min (number_at 4 piece 24) 3) (drop 28 piece));
      head = number_at 4 piece 52;
      chained = number_at 4 piece 56;
    }

unfoldable pub leaf_in : List ℕ → LeafPage
leaf_in bytes = record { next = number_at 4 bytes 4; entries = map entry_in (pieces 60 (min (number_at 2 bytes 2) 8) (drop 32 bytes)) }

unfoldable pub record_in : List ℕ → RecordPage
record_in bytes = record { next = number_at 4 bytes 4; postings = map number_of (pieces 8 (min (max (number_at 2 bytes 2) 1) 60) (drop 32 bytes)) }

unfoldable pub free_in : List ℕ → FreePage
free_in bytes = record { next = number_at 4 bytes 4 }
