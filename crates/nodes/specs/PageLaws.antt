-- The image of a value that fits has the 512 bytes of a page. Assumes nothing.
use Rattle.std.specs.Prelude.{◌≡◌, ℕ, ◌+◌, ◌*◌, ◌≤◌, List, [], ◌∷◌, ◌++◌, length, refl}
use Rattle.std.specs.List.{flat_map, AllByRecursion}
use Rattle.std.proofs.Common.{sym, ◌∙◌, mul-zero, mul-suc, arith, lit≤}
use Rattle.std.proofs.lemmas.List.{length-append, length-replicate}
use Rattle.numbers.specs.BigEndian.{bytes_of}
use Rattle.nodes.specs.declared.sort.PageSort.{PageSort}
use Rattle.nodes.specs.declared.sort.PageSort.TheVariants.{Inner, Leaf, Record, Free}
use Rattle.nodes.specs.Sorts.{sort_number}
use Rattle.nodes.specs.Layout.{padded, HeaderPage, InnerRow, InnerPage, LeafEntry, LeafPage, RecordPage, FreePage, front_bytes, header_image, row_bytes, inner_image, entry_bytes, leaf_image, record_image, free_image, HeaderFits, RowFits, InnerFits, EntryFits, LeafFits, RecordFits, FreeFits}

pub length_padded : (size : ℕ) (xs : List ℕ) → length xs ≤ size → length (padded size xs) ≡ size
unfolding padded
length_padded size xs h = simp (length-append, length-replicate) (omega arith)

pub length_front : (sort : PageSort) (count next : ℕ) → length (front_bytes sort count next) ≡ 32
length_front sort count next = length_padded 32 (sort_number sort ∷ 0 ∷ (bytes_of 2 count ++ bytes_of 4 next)) (lit≤ tt)

-- a page with a front
pub length_page : (sort : PageSort) (count next : ℕ) (rest : List ℕ) → length rest ≤ 480 → length (padded 512 (front_bytes sort count next ++ rest)) ≡ 512
length_page sort count next rest h =
    length_padded 512 (front_bytes sort count next ++ rest) (let a = length-append (front_bytes sort count next) rest in let b = length_front sort count next in omega arith)

pub map_all : {X : Type 0} (P Q : X → Type 0) (xs : List X) → ((x : X) → P x → Q x) → AllByRecursion P xs → AllByRecursion Q xs
map_all P Q [] f h = tt
map_all P Q (x ∷ xs) f h = (f x h.0, map_all P Q xs f h.1)

-- lists of one width each, joined
pub length_joined : {X : Type 0} (width : ℕ) (f : X → List ℕ) (xs : List X) → AllByRecursion (λ x. length (f x) ≡ width) xs → length (flat_map f xs) ≡ width * length xs
length_joined width f [] h = sym (mul-zero width)
length_joined width f (x ∷ xs) h =
    let ih = length_joined width f xs h.1 in
    let one = h.0 in
    length-append (f x) (flat_map f xs) ∙ omega (arith, mul-suc width (length xs))

pub length_postings : (ns : List ℕ) → length (flat_map (bytes_of 8) ns) ≡ 8 * length ns
length_postings [] = refl
length_postings (n ∷ ns) = let ih = length_postings ns in length-append (bytes_of 8 n) (flat_map (bytes_of 8) ns) ∙ omega arith

pub length_row : (row : InnerRow) → RowFits row → length (row_bytes row) ≡ 28
length_row row fits = let l = fits.key_is_24_bytes in length-append (bytes_of 4 row.child) row.key ∙ omega arith

pub length_4 : (a b d e : List ℕ) → length (a ++ (b ++ (d ++ e))) ≡ length a + (length b + (length d + length e))
length_4 a b d e = simp length-append

module _ (e : LeafEntry) (fits : EntryFits e) where
  pub long_inline : length (padded 24 (flat_map (bytes_of 8) e.inline)) ≡ 24
  long_inline = length_padded 24 (flat_map (bytes_of 8) e.inline) (let few = fits.at_most_3_inline in omega (arith, length_postings e.inline))

  pub length_entry : length (entry_bytes e) ≡ 60
  length_entry =
      let k = fits.key_is_24_bytes in
      let l = long_inline in
      length_4 e.key (bytes_of 4 (length e.inline)) (padded 24 (flat_map (bytes_of 8) e.inline)) (bytes_of 4 e.head ++ bytes_of 4 e.chained) ∙ omega arith

pub header_long : (v : HeaderPage) → HeaderFits v → length (header_image v) ≡ 512
header_long v fits =
    length_padded 512 (1 ∷ v.kind_code ∷ (bytes_of 2 v.height ++ (bytes_of 4 v.root ++ (bytes_of 4 v.first_free ++ (bytes_of 4 v.free ++ (bytes_of 4 v.keys ++ bytes_of 4 v.pages)))))) (lit≤ tt)

pub inner_long : (v : InnerPage) → InnerFits v → length (inner_image v) ≡ 512
inner_long v fits =
    let row0 = padded 28 (bytes_of 4 v.first) in
    let rows = flat_map row_bytes v.rows in
    let few = fits.at_most_15_rows in
    let first = length_padded 28 (bytes_of 4 v.first) (lit≤ tt) in
    let long = length_joined 28 row_bytes v.rows (map_all RowFits (λ row. length (row_bytes row) ≡ 28) v.rows length_row fits.each_row_fits) in
    length_page Inner (1 + length v.rows) 0 (row0 ++ rows) (omega (arith, length-append row0 rows))

pub leaf_long : (v : LeafPage) → LeafFits v → length (leaf_image v) ≡ 512
leaf_long v fits =
    let few = fits.at_most_8_entries in
    let long = length_joined 60 entry_bytes v.entries (map_all EntryFits (λ x. length (entry_bytes x) ≡ 60) v.entries length_entry fits.each_entry_fits) in
    length_page Leaf (length v.entries) v.next (flat_map entry_bytes v.entries) (omega arith)

pub record_long : (v : RecordPage) → RecordFits v → length (record_image v) ≡ 512
record_long v fits =
    let few = fits.at_most_60_postings in
    length_page Record (length v.postings) v.next (flat_map (bytes_of 8) v.postings) (omega (arith, length_postings v.postings))

pub free_long : (v : FreePage) → FreeFits v → length (free_image v) ≡ 512
free_long v fits = length_padded 512 (front_bytes Free 0 v.next) (omega (arith, length_front Free 0 v.next))
