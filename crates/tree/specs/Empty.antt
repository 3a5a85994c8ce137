-- What a valid tree of no entries is.
use Rattle.std.specs.Prelude.{◌≡◌, ◌+◌, [], length}
use Rattle.keys.specs.Kinds.{Kind}
use Rattle.tree.specs.Counts.{nodes_in, records_in}
use Rattle.tree.specs.Valid.{Pages, Valid}

-- a header, one leaf as root, no record page, and all other pages free
pub record OneLeaf {kind : Kind} {pages : Pages} (valid : Valid kind pages []) : Type 0 where
  pub root_is_a_leaf : valid.levels ≡ 0
  pub one_node : nodes_in valid ≡ 1
  pub no_record_page : records_in valid ≡ 0
  pub all_but_two_pages_are_free : 2 + length valid.free ≡ length pages

abbrev pub EmptyTreesAreOneLeaf : Type 0
EmptyTreesAreOneLeaf = (kind : Kind) (pages : Pages) (valid : Valid kind pages []) → OneLeaf valid
