-- What of a tree can be read from pages, part by part: chains of records, entries with their chains, leaves with their entries.
use Rattle.std.specs.Prelude.{ℕ, ◌<◌, ◌≤◌, List, map, length, None}
use Rattle.std.specs.List.{AllByRecursion}
use Rattle.keys.specs.Kinds.{Kind}
use Rattle.nodes.specs.Layout.{LeafPage, LeafFits, leaf_image}
use Rattle.tree.specs.Trees.{RecordAt, EntryAt, Leaf}
use Rattle.tree.specs.Valid.{Pages, Holds, head_of, entry_in, Rise, Linked}
use Rattle.searching.specs.Chains.{ChainFrom}
use Rattle.searching.specs.Descents.{keys_in}

-- the page of a leaf
abbrev pub leaf_page : Leaf → LeafPage
leaf_page leaf = record { next = leaf.next; entries = map entry_in leaf.entries }

-- a value that stands on a page other than the header's
pub record Stands {V : Type 0} (image : V → List ℕ) (Fits : V → Type 0) (pages : Pages) (page : ℕ) (value : V) : Type 0 where
  pub not_on_page_0 : 1 ≤ page
  pub is_held : Holds pages page (image value)
  pub fits : Fits value

-- a chain that ends before as many records as pages are read
pub record ReadableChain (pages : Pages) (page : ℕ) (records : List RecordAt) : Type 0 where
  pub starts_there : ChainFrom pages page records
  pub fewer_than_pages : length records < length pages

pub record ReadableLeaf (pages : Pages) (leaf : Leaf) : Type 0 where
  pub stands : Stands leaf_image LeafFits pages leaf.page (leaf_page leaf)
  pub chains_are_readable : AllByRecursion (λ (entry : EntryAt). ReadableChain pages (head_of entry.records) entry.records) leaf.entries

-- leaves side by side, with keys that rise from the first leaf to the last
pub record ReadableLeaves (kind : Kind) (pages : Pages) (leaves : List Leaf) : Type 0 where
  pub each_is_readable : AllByRecursion (ReadableLeaf pages) leaves
  pub are_linked : Linked leaves
  pub keys_rise : Rise kind None (keys_in leaves)
  pub no_more_than_pages : length leaves ≤ length pages
