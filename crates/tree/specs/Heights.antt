-- How high a valid tree can be.
use Rattle.std.specs.Prelude.{suc, ◌≤◌, true, length}
use Rattle.keys.specs.Kinds.{Kind}
use Rattle.book.specs.Entries.{Entries}
use Rattle.tree.specs.Trees.{Tree, leaves_of}
use Rattle.tree.specs.Valid.{Pages, Sized, Valid}

-- a tree of height 7 has 65,536 leaves or more
abbrev pub HeightSevenNeeds65536Leaves : Type 0
HeightSevenNeeds65536Leaves = (tree : Tree 6) → Sized true 6 tree → 65536 ≤ length (leaves_of 6 tree)

-- so on at most 65,536 pages, the header among them, no valid tree is higher than 6
abbrev pub HeightIsAtMostSix : Type 0
HeightIsAtMostSix = (kind : Kind) (pages : Pages) (entries : Entries) (valid : Valid kind pages entries) → length pages ≤ 65536 → suc valid.levels ≤ 6
