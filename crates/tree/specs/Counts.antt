-- How many pages a valid tree uses.
use Rattle.std.specs.Prelude.{◌≡◌, ℕ, ◌+◌, length}
use Rattle.keys.specs.Kinds.{Kind}
use Rattle.book.specs.Entries.{Entries}
use Rattle.tree.specs.Trees.{node_pages, record_pages}
use Rattle.tree.specs.Valid.{Pages, Valid}

abbrev pub nodes_in : {kind : Kind} {pages : Pages} {entries : Entries} → Valid kind pages entries → ℕ
nodes_in valid = length (node_pages valid.levels valid.tree)

abbrev pub records_in : {kind : Kind} {pages : Pages} {entries : Entries} → Valid kind pages entries → ℕ
records_in valid = length (record_pages valid.levels valid.tree)

-- the header, nodes and records are in use, and all other pages are free
abbrev pub PagesAreInUseOrFree : Type 0
PagesAreInUseOrFree =
    (kind : Kind) (pages : Pages) (entries : Entries) (valid : Valid kind pages entries) → 1 + nodes_in valid + records_in valid + length valid.free ≡ length pages
