-- The valid tree: a relation between the pages of a store, a key kind and the entries that the pages hold.
use Rattle.std.specs.Prelude.{◌≡◌, ℕ, zero, suc, ◌+◌, ◌≤◌, Bool, true, false, cond, List, [], ◌∷◌, ◌++◌, map, length, Some, None, sum_by, Option, nat_lt, slice_index_or}
use Rattle.std.specs.List.{flat_map, AllByRecursion}
use Rattle.page_store.specs.Meanings.{Page, Live, Gone}
use Rattle.nodes.specs.Layout.{LeafEntry, header_image, inner_image, leaf_image, record_image, free_image}
use Rattle.keys.specs.Kinds.{Kind, Field, below}
use Rattle.batches.specs.KeyCheck.{above}
use Rattle.book.specs.Books.{count, PostingNumber}
use Rattle.book.specs.Entries.{Entries}
use Rattle.tree.specs.Trees.{RecordAt, EntryAt, Leaf, Branch, Tree, root_of, leaves_of, entries_of, keys_of, node_pages, record_pages, held_by}

abbrev pub Pages : Type 0
Pages = List Page

-- a page that is there and holds this image
abbrev pub Holds : Pages → (page : ℕ) → List ℕ → Type 0
Holds pages page image = slice_index_or pages page Gone ≡ Live image

-- the first page of a chain, and 0 for none
abbrev pub head_of : List RecordAt → ℕ
head_of [] = 0
head_of (first ∷ rest) = first.page

abbrev pub next_free : List ℕ → ℕ
next_free [] = 0
next_free (page ∷ rest) = page

-- records, each linked to the next and the last to none
abbrev pub SpellChain : Pages → List RecordAt → Type 0
SpellChain pages [] = Unit {0}
SpellChain pages (first ∷ rest) = Holds pages first.page (record_image (record { next = head_of rest; postings = first.postings })) × SpellChain pages rest

-- free pages, likewise
abbrev pub SpellFree : Pages → List ℕ → Type 0
SpellFree pages [] = Unit {0}
SpellFree pages (page ∷ rest) = Holds pages page (free_image (record { next = next_free rest })) × SpellFree pages rest

-- an entry as its leaf holds it: with the head page and the number of postings of its chain, both 0 for none
abbrev pub entry_in : EntryAt → LeafEntry
entry_in entry = record { key = entry.key; inline = entry.inline; head = head_of entry.records; chained = sum_by (λ (r : RecordAt). length r.postings) entry.records }

abbrev pub SpellLeaf : Pages → Leaf → Type 0
SpellLeaf pages leaf =
    Holds pages leaf.page (leaf_image (record { next = leaf.next; entries = map entry_in leaf.entries }))
    × AllByRecursion (λ (entry : EntryAt). SpellChain pages entry.records) leaf.entries

-- each node's page holds the node, and so do those of its children
abbrev pub Spell : Pages → (levels : ℕ) → Tree levels → Type 0
Spell pages zero leaf = SpellLeaf pages leaf
Spell pages (suc levels) node =
    Holds pages node.page (inner_image (record { first = root_of levels node.first; rows = map (λ branch. record { key = branch.key; child = root_of levels branch.child }) node.rest }))
    × Spell pages levels node.first
    × AllByRecursion (λ branch. Spell pages levels branch.child) node.rest

-- 8 to 16 children, as root 2 to 16; 4 to 8 entries, as root 0 to 8
abbrev pub fewest_children : (root : Bool) → ℕ
fewest_children root = cond root 2 8

abbrev pub fewest_entries : (root : Bool) → ℕ
fewest_entries root = cond root 0 4

abbrev pub Sized : (root : Bool) → (levels : ℕ) → Tree levels → Type 0
Sized root zero leaf = (fewest_entries root ≤ length leaf.entries) × (length leaf.entries ≤ 8)
Sized root (suc levels) node =
    (fewest_children root ≤ 1 + length node.rest) × (1 + length node.rest ≤ 16)
    × Sized false levels node.first
    × AllByRecursion (λ branch. Sized false levels branch.child) node.rest

-- lawful fields that rise strictly
abbrev pub Rise : Kind → (before : Option Field) → List Field → Type 0
Rise kind before [] = Unit {0}
Rise kind before (key ∷ keys) = (kind.lawful key ≡ true) × (above kind before key ≡ true) × Rise kind (Some key) keys

-- from a bound on, if there is one, and below another, if there is one
abbrev pub From : Kind → Option Field → Field → Type 0
From kind None key = Unit {0}
From kind (Some bound) key = below kind key bound ≡ false

abbrev pub Below : Kind → Option Field → Field → Type 0
Below kind None key = Unit {0}
Below kind (Some bound) key = below kind key bound ≡ true

abbrev pub Between : Kind → (low high : Option Field) → List Field → Type 0
Between kind low high keys = AllByRecursion (λ key. From kind low key × Below kind high key) keys

-- each child holds, at every depth, just keys from the separator left of it up to but not including the one right of it
abbrev pub InRange : {X : Type 0} → Kind → (X → List Field) → (low : Option Field) → X → List (Branch X) → Type 0
InRange kind keys low child [] = Between kind low None (keys child)
InRange kind keys low child (branch ∷ rest) = Between kind low (Some branch.key) (keys child) × InRange kind keys (Some branch.key) branch.child rest

-- keys rise in leaves, separators in inner nodes, and children keep to their ranges
abbrev pub Ordered : Kind → (levels : ℕ) → Tree levels → Type 0
Ordered kind zero leaf = Rise kind None (map (λ (entry : EntryAt). entry.key) leaf.entries)
Ordered kind (suc levels) node =
    Rise kind None (map (λ branch. branch.key) node.rest)
    × InRange kind (keys_of levels) None node.first node.rest
    × Ordered kind levels node.first
    × AllByRecursion (λ branch. Ordered kind levels branch.child) node.rest

-- the page of the next leaf, and 0 past the last
abbrev pub next_leaf : List Leaf → ℕ
next_leaf [] = 0
next_leaf (leaf ∷ rest) = leaf.page

-- each leaf is linked to the one right of it, whatever their parents
abbrev pub Linked : List Leaf → Type 0
Linked [] = Unit {0}
Linked (leaf ∷ rest) = (leaf.next ≡ next_leaf rest) × Linked rest

-- the postings of an entry, the newest first
abbrev pub postings_at : EntryAt → List ℕ
postings_at entry = entry.inline ++ flat_map (λ (r : RecordAt). r.postings) entry.records

-- 0 to 3 inline postings, records of 1 to 60, at least one posting in all, none twice, each a posting number
pub record EntryFits (entry : EntryAt) : Type 0 where
  pub at_most_3_inline : length entry.inline ≤ 3
  pub records_hold_1_to_60 : AllByRecursion (λ (r : RecordAt). (1 ≤ length r.postings) × (length r.postings ≤ 60)) entry.records
  pub at_least_one_posting : 1 ≤ length (postings_at entry)
  pub no_number_twice : (n : ℕ) → count n (postings_at entry) ≤ 1
  pub are_posting_numbers : AllByRecursion PostingNumber (postings_at entry)

-- every page that is reached from the header: the header, nodes, records and free pages
abbrev pub reached_pages : (levels : ℕ) → Tree levels → (free : List ℕ) → List ℕ
reached_pages levels tree free = 0 ∷ node_pages levels tree ++ record_pages levels tree ++ free

-- pages are a valid tree of a kind that holds entries, with the tree and the free pages that show it
pub record Valid (kind : Kind) (pages : Pages) (entries : Entries) : Type 0 where
  pub levels : ℕ
  pub tree : Tree levels
  pub free : List ℕ
  pub at_least_8_pages : 8 ≤ length pages
  pub header_agrees : Holds pages 0 (header_image (record { kind_code = kind.code; height = suc levels; root = root_of levels tree; first_free = next_free free; free = length free; keys = length (entries_of levels tree); pages = length pages }))
  pub nodes_are_spelled : Spell pages levels tree
  pub free_pages_are_spelled : SpellFree pages free
  pub sizes_fit : Sized true levels tree
  pub keys_are_in_order : Ordered kind levels tree
  pub leaves_are_linked : Linked (leaves_of levels tree)
  pub entries_fit : AllByRecursion EntryFits (entries_of levels tree)
  pub each_page_is_reached_once : (page : ℕ) → count page (reached_pages levels tree free) ≡ cond (nat_lt page (length pages)) 1 0
  pub holds_the_entries : held_by levels tree ≡ entries
