-- One small index of narration words, page by page, and the entries that it holds.
use Rattle.std.specs.Prelude.{◌≡◌, ℕ, suc, List, [], ◌∷◌, map, codes}
use Prim.Native.String.{String}
use Rattle.page_store.specs.Meanings.{Live, Sound}
use Rattle.keys.specs.Kinds.{Field}
use Rattle.keys.specs.Words.{padded}
use Rattle.keys.specs.BuiltIn.{word_kind}
use Rattle.nodes.specs.Layout.{InnerRow, LeafEntry, header_image, inner_image, leaf_image, record_image, free_image}
use Rattle.book.specs.Books.{Held}
use Rattle.book.specs.Entries.{Entry, Entries}
use Rattle.tree.specs.Counts.{nodes_in, records_in}
use Rattle.tree.specs.Valid.{Pages, Valid}

-- a word as a key field
abbrev pub word : String → Field
word text = padded (codes text)

-- the bytes of a page of each sort, from what stands in it
abbrev pub header : (kind_code height root_page first_free free keys pages : ℕ) → List ℕ
header kind_code height root_page first_free free keys pages =
    header_image (record { kind_code = kind_code; height = height; root = root_page; first_free = first_free; free = free; keys = keys; pages = pages })

abbrev pub inner : (first : ℕ) → List InnerRow → List ℕ
inner first rows = inner_image (record { first = first; rows = rows })

abbrev pub leaf : (next : ℕ) → List LeafEntry → List ℕ
leaf next entries = leaf_image (record { next = next; entries = entries })

abbrev pub chain : (next : ℕ) → (postings : List ℕ) → List ℕ
chain next postings = record_image (record { next = next; postings = postings })

abbrev pub unused : (next : ℕ) → List ℕ
unused next = free_image (record { next = next })

-- a separator and the child right of it
abbrev pub row : Field → (child : ℕ) → InnerRow
row key child = record { key = key; child = child }

-- an entry whose postings are all inline, and one with a chain
abbrev pub short : Field → (inline : List ℕ) → LeafEntry
short key inline = record { key = key; inline = inline; head = 0; chained = 0 }

abbrev pub long : Field → (inline : List ℕ) → (head chained : ℕ) → LeafEntry
long key inline head chained = record { key = key; inline = inline; head = head; chained = chained }

-- the entries of the left leaf: the first has one posting inline and two records on pages 5 and 3
abbrev pub bank : LeafEntry
bank = long (word "bank") (31 ∷ []) 5 5

abbrev pub cash : LeafEntry
cash = short (word "cash") (30 ∷ 24 ∷ 11 ∷ [])

abbrev pub fees : LeafEntry
fees = short (word "fees") (22 ∷ [])

abbrev pub hire : LeafEntry
hire = short (word "hire") (19 ∷ 14 ∷ [])

-- and of the right leaf: the first shares a number with "bank", and the second has no posting inline and one record, on page 1
abbrev pub loan : LeafEntry
loan = short (word "loan") (31 ∷ 3 ∷ [])

abbrev pub rent : LeafEntry
rent = long (word "rent") [] 1 2

abbrev pub tax : LeafEntry
tax = short (word "tax") (16 ∷ [])

abbrev pub wages : LeafEntry
wages = short (word "wages") (29 ∷ 23 ∷ 10 ∷ [])

abbrev pub left_leaf : List ℕ
left_leaf = leaf 6 (bank ∷ cash ∷ fees ∷ hire ∷ [])

abbrev pub right_leaf : List ℕ
right_leaf = leaf 0 (loan ∷ rent ∷ tax ∷ wages ∷ [])

-- the separator is the key of no entry
abbrev pub root : List ℕ
root = inner 2 (row (word "lease") 6 ∷ [])

-- The header, from page 1 on a record, the left leaf, a record, the root, a record, the right leaf, and three free pages
-- in the order 9, 7, 8. The header has kind code 1, height 2, root page 4, first free page 9, and counts 3 free pages,
-- 8 keys and 10 pages.
abbrev pub image : Pages
image =
    map Live (
    header 1 2 4 9 3 8 10
    ∷ chain 0 (12 ∷ 8 ∷ [])
    ∷ left_leaf
    ∷ chain 0 (5 ∷ 2 ∷ [])
    ∷ root
    ∷ chain 3 (28 ∷ 25 ∷ 20 ∷ [])
    ∷ right_leaf
    ∷ unused 8
    ∷ unused 0
    ∷ unused 7
    ∷ []
    )

abbrev pub keeping : Field → (inline : List ℕ) → (records : List (List ℕ)) → Held Entry
keeping key inline records = record { key = key; value = record { inline = inline; records = records } }

abbrev pub image_entries : Entries
image_entries =
    keeping (word "bank") (31 ∷ []) ((28 ∷ 25 ∷ 20 ∷ []) ∷ (5 ∷ 2 ∷ []) ∷ [])
    ∷ keeping (word "cash") (30 ∷ 24 ∷ 11 ∷ []) []
    ∷ keeping (word "fees") (22 ∷ []) []
    ∷ keeping (word "hire") (19 ∷ 14 ∷ []) []
    ∷ keeping (word "loan") (31 ∷ 3 ∷ []) []
    ∷ keeping (word "rent") [] ((12 ∷ 8 ∷ []) ∷ [])
    ∷ keeping (word "tax") (16 ∷ []) []
    ∷ keeping (word "wages") (29 ∷ 23 ∷ 10 ∷ []) []
    ∷ []

-- a store can hold the image, which is a valid tree of height 2 and holds just these entries
pub record TheImageIsValid : Type 0 where
  pub a_store_can_hold_it : Sound (record { pages = image })
  pub valid : Valid word_kind image image_entries
  pub height_is_2 : suc valid.levels ≡ 2
  pub has_3_nodes : nodes_in valid ≡ 3
  pub has_3_record_pages : records_in valid ≡ 3
  pub free_pages_in_order : valid.free ≡ 9 ∷ 7 ∷ 8 ∷ []
  pub holds_no_other_entries : (entries : Entries) → Valid word_kind image entries → entries ≡ image_entries
