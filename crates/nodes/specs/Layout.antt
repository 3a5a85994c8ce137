-- What a page of each sort is: a function from a value to 512 bytes, and which values fit.
use Rattle.std.specs.Prelude.{◌≡◌, ℕ, ◌+◌, ◌-◌, ◌^◌, ◌<◌, ◌≤◌, List, ◌∷◌, ◌++◌, length, replicate}
use Rattle.std.specs.List.{flat_map, AllByRecursion}
use Rattle.numbers.specs.BigEndian.{bytes_of, Bytes}
use Rattle.nodes.specs.declared.sort.PageSort.{PageSort}
use Rattle.nodes.specs.declared.sort.PageSort.TheVariants.{Header, Inner, Leaf, Record, Free}
use Rattle.nodes.specs.Sorts.{sort_number}

-- bytes, then zeros up to a size: nothing else stands past what is named or counted
unfoldable pub padded : (size : ℕ) → List ℕ → List ℕ
padded size bytes = bytes ++ replicate (size - length bytes) 0

-- page 0: the kind code, the height, the root page, the first free page, and how many free pages, keys and pages there are
pub record HeaderPage : Type 0 where
  pub kind_code : ℕ
  pub height : ℕ
  pub root : ℕ
  pub first_free : ℕ
  pub free : ℕ
  pub keys : ℕ
  pub pages : ℕ

-- a row past row 0: a separator and the child page right of it
pub record InnerRow : Type 0 where
  pub key : List ℕ
  pub child : ℕ

-- an inner node: the child of row 0, which has no key, and the rows after it
pub record InnerPage : Type 0 where
  pub first : ℕ
  pub rows : List InnerRow

-- an entry: its inline postings, and the head record page and number of postings of its chain
pub record LeafEntry : Type 0 where
  pub key : List ℕ
  pub inline : List ℕ
  pub head : ℕ
  pub chained : ℕ

pub record LeafPage : Type 0 where
  pub next : ℕ
  pub entries : List LeafEntry

pub record RecordPage : Type 0 where
  pub next : ℕ
  pub postings : List ℕ

pub record FreePage : Type 0 where
  pub next : ℕ

-- the 32 bytes in front of rows, entries and postings: sort, how many there are, and a link
abbrev pub front_bytes : PageSort → (count next : ℕ) → List ℕ
front_bytes sort count next = padded 32 (sort_number sort ∷ 0 ∷ (bytes_of 2 count ++ bytes_of 4 next))

abbrev pub header_image : HeaderPage → List ℕ
header_image v =
    padded 512 (sort_number Header ∷ v.kind_code ∷ (bytes_of 2 v.height ++ (bytes_of 4 v.root ++ (bytes_of 4 v.first_free ++ (bytes_of 4 v.free ++ (bytes_of 4 v.keys ++ bytes_of 4 v.pages))))))

-- 28 bytes for a row
abbrev pub row_bytes : InnerRow → List ℕ
row_bytes row = bytes_of 4 row.child ++ row.key

abbrev pub inner_image : InnerPage → List ℕ
inner_image v = padded 512 (front_bytes Inner (1 + length v.rows) 0 ++ (padded 28 (bytes_of 4 v.first) ++ flat_map row_bytes v.rows))

-- 60 bytes for an entry
abbrev pub entry_bytes : LeafEntry → List ℕ
entry_bytes e = e.key ++ (bytes_of 4 (length e.inline) ++ (padded 24 (flat_map (bytes_of 8) e.inline) ++ (bytes_of 4 e.head ++ bytes_of 4 e.chained)))

abbrev pub leaf_image : LeafPage → List ℕ
leaf_image v = padded 512 (front_bytes Leaf (length v.entries) v.next ++ flat_map entry_bytes v.entries)

abbrev pub record_image : RecordPage → List ℕ
record_image v = padded 512 (front_bytes Record (length v.postings) v.next ++ flat_map (bytes_of 8) v.postings)

abbrev pub free_image : FreePage → List ℕ
free_image v = padded 512 (front_bytes Free 0 v.next)

pub record HeaderFits (v : HeaderPage) : Type 0 where
  pub kind_code_is_a_byte : v.kind_code < 2 ^ 8
  pub height_fits : v.height < 2 ^ 16
  pub root_fits : v.root < 2 ^ 32
  pub first_free_fits : v.first_free < 2 ^ 32
  pub free_fits : v.free < 2 ^ 32
  pub keys_fit : v.keys < 2 ^ 32
  pub pages_fit : v.pages < 2 ^ 32

pub record RowFits (row : InnerRow) : Type 0 where
  pub key_is_24_bytes : length row.key ≡ 24
  pub key_holds_bytes : Bytes row.key
  pub child_fits : row.child < 2 ^ 32

-- 1 to 16 children: the first and at most 15 after it
pub record InnerFits (v : InnerPage) : Type 0 where
  pub first_fits : v.first < 2 ^ 32
  pub at_most_15_rows : length v.rows ≤ 15
  pub each_row_fits : AllByRecursion RowFits v.rows

pub record EntryFits (e : LeafEntry) : Type 0 where
  pub key_is_24_bytes : length e.key ≡ 24
  pub key_holds_bytes : Bytes e.key
  pub at_most_3_inline : length e.inline ≤ 3
  pub each_inline_fits : AllByRecursion (λ n. n < 2 ^ 64) e.inline
  pub head_fits : e.head < 2 ^ 32
  pub chained_fits : e.chained < 2 ^ 32

pub record LeafFits (v : LeafPage) : Type 0 where
  pub next_fits : v.next < 2 ^ 32
  pub at_most_8_entries : length v.entries ≤ 8
  pub each_entry_fits : AllByRecursion EntryFits v.entries

pub record RecordFits (v : RecordPage) : Type 0 where
  pub next_fits : v.next < 2 ^ 32
  pub has_a_posting : 0 < length v.postings
  pub at_most_60_postings : length v.postings ≤ 60
  pub each_posting_fits : AllByRecursion (λ n. n < 2 ^ 64) v.postings

pub record FreeFits (v : FreePage) : Type 0 where
  pub next_fits : v.next < 2 ^ 32
