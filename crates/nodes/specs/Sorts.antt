-- The sorts of pages, by the number in byte 0.
use Rattle.std.specs.Prelude.{ℕ}
use Rattle.nodes.specs.declared.sort.PageSort.{PageSort}
use Rattle.nodes.specs.declared.sort.PageSort.TheVariants.{Header, Inner, Leaf, Record, Free}

abbrev pub sort_number : PageSort → ℕ
sort_number Header = 1
sort_number Inner = 2
sort_number Leaf = 3
sort_number Record = 4
sort_number Free = 5
