-- The empty tree that make lays out: the header on page 0, the root, an empty leaf, on page 1, and all pages after them free.
use Rattle.std.specs.Prelude.{ℕ, ◌-◌, List, []}
use Rattle.std.specs.List.{range_with_len}
use Rattle.nodes.specs.Layout.{HeaderPage, LeafPage}

-- from page 2 on, in rising order
abbrev pub free_pages : (count : ℕ) → List ℕ
free_pages count = range_with_len 2 (count - 2)

abbrev pub empty_header : (code first count : ℕ) → HeaderPage
empty_header code first count = record { kind_code = code; height = 1; root = 1; first_free = first; free = count - 2; keys = 0; pages = count }

abbrev pub empty_leaf : LeafPage
empty_leaf = record { next = 0; entries = [] }
