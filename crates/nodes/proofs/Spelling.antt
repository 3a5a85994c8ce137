-- Each image is a page, and what stands in it is the value that it is the image of. Assumes nothing.
use Rattle.std.proofs.Common.{◌≡◌, ℕ, ◌+◌, ◌-◌, ◌^◌, ◌<◌, min, max, List, [], ◌∷◌, ◌++◌, map, length, drop, replicate, Some, None, Option, sym, refl, ap, ◌∙◌, subst, arith, lit<, lit≤, MatchOption}
use Rattle.std.proofs.lemmas.List.{append_assoc, append-nil, take_at, take_all, drop_at, length-append}
use Rattle.std.specs.List.{flat_map, AllByRecursion}
use Rattle.numbers.specs.BigEndian.{number_of, bytes_of, Bytes, part, number_at}
use Rattle.numbers.proofs.Spelling.{bytes_bytes_of, number_bytes_of}
use Rattle.nodes.specs.declared.sort.PageSort.{PageSort}
use Rattle.nodes.specs.declared.sort.PageSort.TheVariants.{Header, Inner, Leaf, Record, Free}
use Rattle.nodes.specs.Sorts.{sort_number}
use Rattle.nodes.specs.Layout.{padded, HeaderPage, InnerRow, InnerPage, LeafEntry, LeafPage, RecordPage, FreePage, front_bytes, header_image, row_bytes, inner_image, entry_bytes, leaf_image, record_image, free_image, HeaderFits, RowFits, InnerFits, EntryFits, LeafFits, RecordFits, FreeFits}
use Rattle.nodes.specs.Readings.{pieces, header_in, row_in, inner_in, entry_in, leaf_in, record_in, free_in}
use Rattle.nodes.specs.Codec.{Spells, Decoded, Encoded}
use Rattle.nodes.specs.PageLaws.{length_padded, length_front, map_all, length_row, length_4, long_inline, length_entry, header_long, inner_long, leaf_long, record_long, free_long}
use Rattle.nodes.proofs.Padding.{padded_append, bytes_append, bytes_padded, bytes_joined}
use Rattle.nodes.proofs.Cutting.{pieces_joined, number_there}

-- a value from its image, for a page of any sort
module _ {V : Type 0} (image : V → List ℕ) (Fits : V → Type 0) (reading : List ℕ → V) (back : (v : V) → Fits v → reading (image v) ≡ v) where
  pub only_one : (v w : V) → Fits v → Fits w → image v ≡ image w → v ≡ w
  only_one v w f g e = sym (back v f) ∙ ap reading e ∙ back w g

  -- what stands in an image
  pub read_back : (page : List ℕ) (x : V) → x ≡ reading page → (v : V) → Fits v → page ≡ image v → x ≡ v
  read_back page x stands v fits e = stands ∙ ap reading e ∙ back v fits

  -- bytes that are not the image of what stands in them are no image
  pub no_image : (bytes page : List ℕ) (x : V) → x ≡ reading bytes → page ≡ image x → (bytes ≡ page → ⊥) → (v : V) → Fits v → bytes ≡ image v → ⊥
  no_image bytes page x r e differ v fits is = differ (is ∙ sym (e ∙ ap image (r ∙ ap reading is ∙ back v fits)))

  pub spells : (page : List ℕ) (v : V) → Fits v → length (image v) ≡ 512 → Bytes (image v) → page ≡ image v → Spells image Fits page v
  spells page v fits long bytes e =
      record {
        fits = fits;
        is_its_image = e;
        has_512_bytes = ap length e ∙ long;
        holds_bytes = subst Bytes (sym e) bytes;
        of_no_other = λ other f is. only_one other v f fits (sym is ∙ e);
      }

  pub encoded : {X : Type 0} (meaning : X → V) (page : List ℕ) (v : V) → Spells image Fits page v → Encoded image Fits meaning v page
  encoded {X = X} meaning page v s = record { spells = s; comes_back = back_again }
    where
      back_again : (r : Option X) → Decoded image Fits meaning page r → MatchOption r ⊥ (λ (x : X). meaning x ≡ v)
      back_again None d = d v s.fits s.is_its_image
      back_again (Some x) d = s.of_no_other (meaning x) d.fits d.is_its_image

pub spelled_too : {V : Type 0} (image : V → List ℕ) (Fits : V → Type 0) (page same : List ℕ) (v : V) → page ≡ same → Spells image Fits same v → Spells image Fits page v
spelled_too image Fits page same v e s = subst (λ (bytes : List ℕ). Spells image Fits bytes v) (sym e) s

-- what stands in front
front_count : (sort : PageSort) (count next : ℕ) (rest : List ℕ) → front_bytes sort count next ++ rest ≡ (sort_number sort ∷ 0 ∷ []) ++ (bytes_of 2 count ++ (bytes_of 4 next ++ (replicate 24 0 ++ rest)))
unfolding padded
front_count sort count next rest = refl

front_next : (sort : PageSort) (count next : ℕ) (rest : List ℕ) → front_bytes sort count next ++ rest ≡ (sort_number sort ∷ 0 ∷ bytes_of 2 count) ++ (bytes_of 4 next ++ (replicate 24 0 ++ rest))
unfolding padded
front_next sort count next rest = refl

row_0 : (first : ℕ) (rest : List ℕ) → padded 28 (bytes_of 4 first) ++ rest ≡ bytes_of 4 first ++ (replicate 24 0 ++ rest)
unfolding padded
row_0 first rest = refl

small_sort : (sort : PageSort) → sort_number sort < 256
small_sort Header = lit< tt
small_sort Inner = lit< tt
small_sort Leaf = lit< tt
small_sort Record = lit< tt
small_sort Free = lit< tt

bytes_front : (sort : PageSort) (count next : ℕ) → Bytes (front_bytes sort count next)
bytes_front sort count next =
    bytes_padded 32 (sort_number sort ∷ 0 ∷ (bytes_of 2 count ++ bytes_of 4 next)) (small_sort sort, (lit< tt, bytes_append (bytes_of 2 count) (bytes_of 4 next) (bytes_bytes_of 2 count) (bytes_bytes_of 4 next)))

-- what stands in a page with such a front
module _ (sort : PageSort) (count next : ℕ) (rest : List ℕ) where
  fronted : padded 512 (front_bytes sort count next ++ rest) ≡ front_bytes sort count next ++ padded 480 rest
  fronted = padded_append 512 32 480 (front_bytes sort count next) rest (length_front sort count next) refl

  pub count_there : count < 65536 → number_at 2 (padded 512 (front_bytes sort count next ++ rest)) 2 ≡ count
  count_there h =
      number_there 2 2 count (padded 512 (front_bytes sort count next ++ rest)) (sort_number sort ∷ 0 ∷ []) (bytes_of 4 next ++ (replicate 24 0 ++ padded 480 rest)) (fronted ∙ front_count sort count next (padded 480 rest)) refl h

  pub next_there : next < 4294967296 → number_at 4 (padded 512 (front_bytes sort count next ++ rest)) 4 ≡ next
  next_there h =
      number_there 4 4 next (padded 512 (front_bytes sort count next ++ rest)) (sort_number sort ∷ 0 ∷ bytes_of 2 count) (replicate 24 0 ++ padded 480 rest) (fronted ∙ front_next sort count next (padded 480 rest)) refl h

  pub rest_there : drop 32 (padded 512 (front_bytes sort count next ++ rest)) ≡ padded 480 rest
  rest_there = ap (drop 32) fronted ∙ drop_at (front_bytes sort count next) (padded 480 rest) 32 (length_front sort count next)

  pub bytes_page : Bytes rest → Bytes (padded 512 (front_bytes sort count next ++ rest))
  bytes_page h = bytes_padded 512 (front_bytes sort count next ++ rest) (bytes_append (front_bytes sort count next) rest (bytes_front sort count next) h)

-- so many pieces of one width, cut out of what was padded
padded_pieces : {X : Type 0} (width size count : ℕ) (f : X → List ℕ) (g : List ℕ → X) (xs : List X) (bytes : List ℕ) → AllByRecursion (λ x. (length (f x) ≡ width) × (g (f x) ≡ x)) xs → count ≡ length xs → bytes ≡ padded size (flat_map f xs) → map g (pieces width count bytes) ≡ xs
unfolding padded
padded_pieces width size count f g xs bytes h c e =
    ap (λ (n : ℕ). map g (pieces width n bytes)) c
    ∙ ap (λ (b : List ℕ). map g (pieces width (length xs) b)) e
    ∙ pieces_joined width f g xs (replicate (size - length (flat_map f xs)) 0) h

posting_back : (n : ℕ) → n < 2 ^ 64 → (length (bytes_of 8 n) ≡ 8) × (number_of (bytes_of 8 n) ≡ n)
posting_back n h = (refl, number_bytes_of 8 n h)

postings_back : (ns : List ℕ) → AllByRecursion (λ n. n < 2 ^ 64) ns → AllByRecursion (λ n. (length (bytes_of 8 n) ≡ 8) × (number_of (bytes_of 8 n) ≡ n)) ns
postings_back ns h = map_all (λ n. n < 2 ^ 64) (λ n. (length (bytes_of 8 n) ≡ 8) × (number_of (bytes_of 8 n) ≡ n)) ns posting_back h

bytes_postings : (ns : List ℕ) → Bytes (flat_map (bytes_of 8) ns)
bytes_postings [] = tt
bytes_postings (n ∷ ns) = bytes_append (bytes_of 8 n) (flat_map (bytes_of 8) ns) (bytes_bytes_of 8 n) (bytes_postings ns)

-- free pages
abbrev pub made_free : ℕ → FreePage
made_free n = record { next = n }

pub free_back : (v : FreePage) → FreeFits v → free_in (free_image v) ≡ v
unfolding free_in
free_back v fits =
    ap (λ (n : ℕ). made_free n) (ap (λ (b : List ℕ). number_at 4 (padded 512 b) 4) (sym (append-nil (front_bytes Free 0 v.next))) ∙ next_there Free 0 v.next [] fits.next_fits)

pub free_spells : (page : List ℕ) (v : FreePage) → FreeFits v → page ≡ free_image v → Spells free_image FreeFits page v
free_spells page v fits e = spells free_image FreeFits free_in free_back page v fits (free_long v fits) (bytes_padded 512 (front_bytes Free 0 v.next) (bytes_front Free 0 v.next)) e

-- record pages
abbrev pub made_record : ℕ → List ℕ → RecordPage
made_record next postings = record { next = next; postings = postings }

pub record_back : (v : RecordPage) → RecordFits v → record_in (record_image v) ≡ v
unfolding record_in
record_back v fits =
    let rest = flat_map (bytes_of 8) v.postings in
    let n = length v.postings in
    let few = fits.at_most_60_postings in
    let some = fits.has_a_posting in
    let counted = count_there Record n v.next rest (omega arith) in
    let most : min (max n 1) 60 ≡ n = omega arith in
    ap (λ (next : ℕ). made_record next (map number_of (pieces 8 (min (max (number_at 2 (record_image v) 2) 1) 60) (drop 32 (record_image v))))) (next_there Record n v.next rest fits.next_fits)
    ∙ ap (made_record v.next) (padded_pieces 8 480 (min (max (number_at 2 (record_image v) 2) 1) 60) (bytes_of 8) number_of v.postings (drop 32 (record_image v)) (postings_back v.postings fits.each_posting_fits) (ap (λ (m : ℕ). min (max m 1) 60) counted ∙ most) (rest_there Record n v.next rest))

pub record_spells : (page : List ℕ) (v : RecordPage) → RecordFits v → page ≡ record_image v → Spells record_image RecordFits page v
record_spells page v fits e =
    spells record_image RecordFits record_in record_back page v fits (record_long v fits) (bytes_page Record (length v.postings) v.next (flat_map (bytes_of 8) v.postings) (bytes_postings v.postings)) e

-- the header
abbrev pub made_header : (a b d e f g h : ℕ) → HeaderPage
made_header a b d e f g h = record { kind_code = a; height = b; root = d; first_free = e; free = f; keys = g; pages = h }

pub header_back : (v : HeaderPage) → HeaderFits v → header_in (header_image v) ≡ v
unfolding header_in padded
header_back v fits =
    let page = header_image v in
    let b0 = bytes_of 2 v.height in
    let b1 = bytes_of 4 v.root in
    let b2 = bytes_of 4 v.first_free in
    let b3 = bytes_of 4 v.free in
    let b4 = bytes_of 4 v.keys in
    let b5 = bytes_of 4 v.pages in
    let zs : List ℕ = replicate 488 0 in
    let e0 : number_at 2 page 2 ≡ v.height = number_there 2 2 v.height page (1 ∷ v.kind_code ∷ []) (b1 ++ (b2 ++ (b3 ++ (b4 ++ (b5 ++ zs))))) refl refl fits.height_fits in
    let e1 : number_at 4 page 4 ≡ v.root = number_there 4 4 v.root page (1 ∷ v.kind_code ∷ b0) (b2 ++ (b3 ++ (b4 ++ (b5 ++ zs)))) refl refl fits.root_fits in
    let e2 : number_at 4 page 8 ≡ v.first_free = number_there 4 8 v.first_free page (1 ∷ v.kind_code ∷ (b0 ++ b1)) (b3 ++ (b4 ++ (b5 ++ zs))) refl refl fits.first_free_fits in
    let e3 : number_at 4 page 12 ≡ v.free = number_there 4 12 v.free page (1 ∷ v.kind_code ∷ (b0 ++ (b1 ++ b2))) (b4 ++ (b5 ++ zs)) refl refl fits.free_fits in
    let e4 : number_at 4 page 16 ≡ v.keys = number_there 4 16 v.keys page (1 ∷ v.kind_code ∷ (b0 ++ (b1 ++ (b2 ++ b3)))) (b5 ++ zs) refl refl fits.keys_fit in
    let e5 : number_at 4 page 20 ≡ v.pages = number_there 4 20 v.pages page (1 ∷ v.kind_code ∷ (b0 ++ (b1 ++ (b2 ++ (b3 ++ b4))))) zs refl refl fits.pages_fit in
    ap (λ (n : ℕ). made_header v.kind_code n (number_at 4 page 4) (number_at 4 page 8) (number_at 4 page 12) (number_at 4 page 16) (number_at 4 page 20)) e0
    ∙ ap (λ (n : ℕ). made_header v.kind_code v.height n (number_at 4 page 8) (number_at 4 page 12) (number_at 4 page 16) (number_at 4 page 20)) e1
    ∙ ap (λ (n : ℕ). made_header v.kind_code v.height v.root n (number_at 4 page 12) (number_at 4 page 16) (number_at 4 page 20)) e2
    ∙ ap (λ (n : ℕ). made_header v.kind_code v.height v.root v.first_free n (number_at 4 page 16) (number_at 4 page 20)) e3
    ∙ ap (λ (n : ℕ). made_header v.kind_code v.height v.root v.first_free v.free n (number_at 4 page 20)) e4
    ∙ ap (λ (n : ℕ). made_header v.kind_code v.height v.root v.first_free v.free v.keys n) e5

pub header_spells : (page : List ℕ) (v : HeaderPage) → HeaderFits v → page ≡ header_image v → Spells header_image HeaderFits page v
header_spells page v fits e =
    let named : List ℕ = 1 ∷ v.kind_code ∷ (bytes_of 2 v.height ++ (bytes_of 4 v.root ++ (bytes_of 4 v.first_free ++ (bytes_of 4 v.free ++ (bytes_of 4 v.keys ++ bytes_of 4 v.pages))))) in
    let r5 : List ℕ = bytes_of 4 v.pages in
    let r4 : List ℕ = bytes_of 4 v.keys ++ r5 in
    let r3 : List ℕ = bytes_of 4 v.free ++ r4 in
    let r2 : List ℕ = bytes_of 4 v.first_free ++ r3 in
    let r1 : List ℕ = bytes_of 4 v.root ++ r2 in
    let h4 = bytes_append (bytes_of 4 v.keys) r5 (bytes_bytes_of 4 v.keys) (bytes_bytes_of 4 v.pages) in
    let h3 = bytes_append (bytes_of 4 v.free) r4 (bytes_bytes_of 4 v.free) h4 in
    let h2 = bytes_append (bytes_of 4 v.first_free) r3 (bytes_bytes_of 4 v.first_free) h3 in
    let h1 = bytes_append (bytes_of 4 v.root) r2 (bytes_bytes_of 4 v.root) h2 in
    let h0 = bytes_append (bytes_of 2 v.height) r1 (bytes_bytes_of 2 v.height) h1 in
    spells header_image HeaderFits header_in header_back page v fits (header_long v fits) (bytes_padded 512 named (lit< tt, (fits.kind_code_is_a_byte, h0))) e

-- rows
abbrev pub made_row : List ℕ → ℕ → InnerRow
made_row key child = record { key = key; child = child }

pub row_back : (row : InnerRow) → RowFits row → row_in (row_bytes row) ≡ row
unfolding row_in
row_back row fits =
    ap (λ (n : ℕ). made_row (part 4 24 (row_bytes row)) n) (number_there 4 0 row.child (row_bytes row) [] row.key refl refl fits.child_fits)
    ∙ ap (λ (key : List ℕ). made_row key row.child) (take_all 24 row.key (let l = fits.key_is_24_bytes in omega arith))

bytes_row : (row : InnerRow) → RowFits row → Bytes (row_bytes row)
bytes_row row fits = bytes_append (bytes_of 4 row.child) row.key (bytes_bytes_of 4 row.child) fits.key_holds_bytes

-- inner nodes
abbrev pub made_inner : ℕ → List InnerRow → InnerPage
made_inner first rows = record { first = first; rows = rows }

pub inner_back : (v : InnerPage) → InnerFits v → inner_in (inner_image v) ≡ v
unfolding inner_in
inner_back v fits =
    let n = length v.rows in
    let front = front_bytes Inner (1 + n) 0 in
    let b = bytes_of 4 v.first in
    let row0 = padded 28 (bytes_of 4 v.first) in
    let rows = flat_map row_bytes v.rows in
    let few = fits.at_most_15_rows in
    let counted = count_there Inner (1 + n) 0 (row0 ++ rows) (omega arith) in
    let most : min (1 + n - 1) 15 ≡ n = omega arith in
    let l0 = length_front Inner (1 + n) 0 in
    let l1 : length (padded 28 (bytes_of 4 v.first)) ≡ 28 = length_padded 28 b (lit≤ tt) in
    let ahead : inner_image v ≡ front ++ (b ++ (replicate 24 0 ++ padded 452 rows)) =
    fronted Inner (1 + n) 0 (row0 ++ rows) ∙ ap (λ (ys : List ℕ). front ++ ys) (padded_append 480 28 452 row0 rows l1 refl ∙ row_0 v.first (padded 452 rows)) in
    let behind : drop 60 (inner_image v) ≡ padded 452 rows =
    ap (λ (ys : List ℕ). drop 60 (padded 512 ys)) (sym (append_assoc front row0 rows))
    ∙ ap (drop 60) (padded_append 512 60 452 (front ++ row0) rows (length-append front row0 ∙ omega arith) refl)
    ∙ drop_at (front ++ row0) (padded 452 rows) 60 (length-append front row0 ∙ omega arith) in
    ap (λ (m : ℕ). made_inner m (map row_in (pieces 28 (min (number_at 2 (inner_image v) 2 - 1) 15) (drop 60 (inner_image v))))) (number_there 4 32 v.first (inner_image v) front (replicate 24 0 ++ padded 452 rows) ahead l0 fits.first_fits)
    ∙ ap (made_inner v.first) (padded_pieces 28 452 (min (number_at 2 (inner_image v) 2 - 1) 15) row_bytes row_in v.rows (drop 60 (inner_image v)) (map_all RowFits (λ row. (length (row_bytes row) ≡ 28) × (row_in (row_bytes row) ≡ row)) v.rows (λ row f. (length_row row f, row_back row f)) fits.each_row_fits) (ap (λ (m : ℕ). min (m - 1) 15) counted ∙ most) behind)

pub inner_spells : (page : List ℕ) (v : InnerPage) → InnerFits v → page ≡ inner_image v → Spells inner_image InnerFits page v
inner_spells page v fits e =
    let n = length v.rows in
    let row0 = padded 28 (bytes_of 4 v.first) in
    let rows = flat_map row_bytes v.rows in
    spells inner_image InnerFits inner_in inner_back page v fits
    (inner_long v fits)
    (bytes_page Inner (1 + n) 0 (row0 ++ rows) (bytes_append row0 rows (bytes_padded 28 (bytes_of 4 v.first) (bytes_bytes_of 4 v.first)) (bytes_joined row_bytes v.rows (map_all RowFits (λ row. Bytes (row_bytes row)) v.rows bytes_row fits.each_row_fits))))
    e

-- entries
abbrev pub made_entry : (key inline : List ℕ) → (head chained : ℕ) → LeafEntry
made_entry key inline head chained = record { key = key; inline = inline; head = head; chained = chained }

grouped : (a b d e f : List ℕ) → a ++ (b ++ (d ++ (e ++ f))) ≡ (a ++ (b ++ d)) ++ (e ++ f)
grouped a b d e f = simp append_assoc

last : (a b d e f : List ℕ) → a ++ (b ++ (d ++ (e ++ f))) ≡ (a ++ (b ++ (d ++ e))) ++ (f ++ [])
last a b d e f = simp (append_assoc, append-nil)

module _ (e : LeafEntry) (fits : EntryFits e) where
  pub entry_back : entry_in (entry_bytes e) ≡ e
  unfolding entry_in padded
  entry_back =
      let k = fits.key_is_24_bytes in
      let few = fits.at_most_3_inline in
      let n = length e.inline in
      let key = e.key in
      let b = bytes_of 4 (length e.inline) in
      let js = flat_map (bytes_of 8) e.inline in
      let zs : List ℕ = replicate (24 - length (flat_map (bytes_of 8) e.inline)) 0 in
      let h = bytes_of 4 e.head in
      let d = bytes_of 4 e.chained in
      let bytes = entry_bytes e in
      let in52 : length (key ++ (b ++ (js ++ zs))) ≡ 52 = length_4 key b js zs ∙ (let l = long_inline e fits in let m = length-append js zs in omega arith) in
      let in56 : length (key ++ (b ++ ((js ++ zs) ++ h))) ≡ 56 = length_4 key b (js ++ zs) h ∙ (let l = long_inline e fits in omega arith) in
      let counted : number_at 4 bytes 24 ≡ n = number_there 4 24 n bytes key ((js ++ zs) ++ (h ++ d)) refl k (omega arith) in
      let most : min n 3 ≡ n = omega arith in
      let behind : drop 28 bytes ≡ js ++ (zs ++ (h ++ d)) =
      ap (drop 28) (sym (append_assoc key b ((js ++ zs) ++ (h ++ d))))
      ∙ drop_at (key ++ b) ((js ++ zs) ++ (h ++ d)) 28 (length-append key b ∙ omega arith)
      ∙ append_assoc js zs (h ++ d) in
      let inline : map number_of (pieces 8 (min (number_at 4 bytes 24) 3) (drop 28 bytes)) ≡ e.inline =
      ap (λ (m : ℕ). map number_of (pieces 8 (min m 3) (drop 28 bytes))) counted
      ∙ ap (λ (m : ℕ). map number_of (pieces 8 m (drop 28 bytes))) most
      ∙ ap (λ (ys : List ℕ). map number_of (pieces 8 n ys)) behind
      ∙ pieces_joined 8 (bytes_of 8) number_of e.inline (zs ++ (h ++ d)) (postings_back e.inline fits.each_inline_fits) in
      let head : number_at 4 bytes 52 ≡ e.head = number_there 4 52 e.head bytes (key ++ (b ++ (js ++ zs))) d (grouped key b (js ++ zs) h d) in52 fits.head_fits in
      let chained : number_at 4 bytes 56 ≡ e.chained = number_there 4 56 e.chained bytes (key ++ (b ++ ((js ++ zs) ++ h))) [] (last key b (js ++ zs) h d) in56 fits.chained_fits in
      ap (λ (x : List ℕ). made_entry x (map number_of (pieces 8 (min (number_at 4 bytes 24) 3) (drop 28 bytes))) (number_at 4 bytes 52) (number_at 4 bytes 56)) (take_at key (b ++ ((js ++ zs) ++ (h ++ d))) 24 k)
      ∙ ap (λ (x : List ℕ). made_entry key x (number_at 4 bytes 52) (number_at 4 bytes 56)) inline
      ∙ ap (λ (m : ℕ). made_entry key e.inline m (number_at 4 bytes 56)) head
      ∙ ap (λ (m : ℕ). made_entry key e.inline e.head m) chained

  pub bytes_entry : Bytes (entry_bytes e)
  bytes_entry =
      let numbers = bytes_append (bytes_of 4 e.head) (bytes_of 4 e.chained) (bytes_bytes_of 4 e.head) (bytes_bytes_of 4 e.chained) in
      let inline = bytes_append (padded 24 (flat_map (bytes_of 8) e.inline)) (bytes_of 4 e.head ++ bytes_of 4 e.chained) (bytes_padded 24 (flat_map (bytes_of 8) e.inline) (bytes_postings e.inline)) numbers in
      bytes_append e.key (bytes_of 4 (length e.inline) ++ (padded 24 (flat_map (bytes_of 8) e.inline) ++ (bytes_of 4 e.head ++ bytes_of 4 e.chained))) fits.key_holds_bytes
      (bytes_append (bytes_of 4 (length e.inline)) (padded 24 (flat_map (bytes_of 8) e.inline) ++ (bytes_of 4 e.head ++ bytes_of 4 e.chained)) (bytes_bytes_of 4 (length e.inline)) inline)

-- leaves
abbrev pub made_leaf : ℕ → List LeafEntry → LeafPage
made_leaf next entries = record { next = next; entries = entries }

pub leaf_back : (v : LeafPage) → LeafFits v → leaf_in (leaf_image v) ≡ v
unfolding leaf_in
leaf_back v fits =
    let rest = flat_map entry_bytes v.entries in
    let n = length v.entries in
    let few = fits.at_most_8_entries in
    let counted = count_there Leaf n v.next rest (omega arith) in
    let most : min n 8 ≡ n = omega arith in
    ap (λ (next : ℕ). made_leaf next (map entry_in (pieces 60 (min (number_at 2 (leaf_image v) 2) 8) (drop 32 (leaf_image v))))) (next_there Leaf n v.next rest fits.next_fits)
    ∙ ap (made_leaf v.next) (padded_pieces 60 480 (min (number_at 2 (leaf_image v) 2) 8) entry_bytes entry_in v.entries (drop 32 (leaf_image v)) (map_all EntryFits (λ e. (length (entry_bytes e) ≡ 60) × (entry_in (entry_bytes e) ≡ e)) v.entries (λ e f. (length_entry e f, entry_back e f)) fits.each_entry_fits) (ap (λ (m : ℕ). min m 8) counted ∙ most) (rest_there Leaf n v.next rest))

pub leaf_spells : (page : List ℕ) (v : LeafPage) → LeafFits v → page ≡ leaf_image v → Spells leaf_image LeafFits page v
leaf_spells page v fits e =
    let n = length v.entries in
    let rest = flat_map entry_bytes v.entries in
    spells leaf_image LeafFits leaf_in leaf_back page v fits (leaf_long v fits) (bytes_page Leaf n v.next rest (bytes_joined entry_bytes v.entries (map_all EntryFits (λ x. Bytes (entry_bytes x)) v.entries bytes_entry fits.each_entry_fits))) e
