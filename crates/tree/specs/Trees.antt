-- The tree, by recursion on its height: what stands on pages, apart from the bytes that spell it.
use Rattle.std.specs.Prelude.{ℕ, zero, suc, List, [], ◌∷◌, ◌++◌, map}
use Rattle.std.specs.List.{flat_map}
use Rattle.keys.specs.Kinds.{Field}
use Rattle.book.specs.Books.{Held}
use Rattle.book.specs.Entries.{Entry, Entries}

-- a record page of a chain, and the postings that it holds
pub record RecordAt : Type 0 where
  pub page : ℕ
  pub postings : List ℕ

-- an entry of a leaf: its inline postings, and its chain of records
pub record EntryAt : Type 0 where
  pub key : Field
  pub inline : List ℕ
  pub records : List RecordAt

-- a leaf, and the page of the leaf right of it (0 at the right end)
pub record Leaf : Type 0 where
  pub page : ℕ
  pub next : ℕ
  pub entries : List EntryAt

-- a separator, and the child right of it
pub record Branch (X : Type 0) : Type 0 where
  pub key : Field
  pub child : X

-- an inner node: its first child, which has no separator, and the others
pub record Inner (X : Type 0) : Type 0 where
  pub page : ℕ
  pub first : X
  pub rest : List (Branch X)

-- a tree with so many levels below its root: all leaves are equally deep
abbrev pub Tree : ℕ → Type 0
Tree zero = Leaf
Tree (suc levels) = Inner (Tree levels)

-- something of every child, from left to right
abbrev pub each_child : {X A : Type 0} → (X → List A) → Inner X → List A
each_child f node = f node.first ++ flat_map (λ branch. f branch.child) node.rest

abbrev pub root_of : (levels : ℕ) → Tree levels → ℕ
root_of zero leaf = leaf.page
root_of (suc levels) node = node.page

-- the leaves, from left to right
abbrev pub leaves_of : (levels : ℕ) → Tree levels → List Leaf
leaves_of zero leaf = leaf ∷ []
leaves_of (suc levels) node = each_child (leaves_of levels) node

-- the entries of all leaves, from left to right
abbrev pub entries_of : (levels : ℕ) → Tree levels → List EntryAt
entries_of levels tree = flat_map (λ (leaf : Leaf). leaf.entries) (leaves_of levels tree)

abbrev pub keys_of : (levels : ℕ) → Tree levels → List Field
keys_of levels tree = map (λ (entry : EntryAt). entry.key) (entries_of levels tree)

-- the pages of nodes: of the root and of every child below it
abbrev pub node_pages : (levels : ℕ) → Tree levels → List ℕ
node_pages zero leaf = leaf.page ∷ []
node_pages (suc levels) node = node.page ∷ each_child (node_pages levels) node

-- the pages of an entry's chain, and of all chains
abbrev pub chain_pages : EntryAt → List ℕ
chain_pages entry = map (λ (record' : RecordAt). record'.page) entry.records

abbrev pub record_pages : (levels : ℕ) → Tree levels → List ℕ
record_pages levels tree = flat_map chain_pages (entries_of levels tree)

-- an entry without its page numbers, and the entries that a tree holds
abbrev pub held : EntryAt → Held Entry
held entry = record { key = entry.key; value = record { inline = entry.inline; records = map (λ (record' : RecordAt). record'.postings) entry.records } }

abbrev pub held_by : (levels : ℕ) → Tree levels → Entries
held_by levels tree = map held (entries_of levels tree)
