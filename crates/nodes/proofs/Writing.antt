-- Pages as the code fills them, from the front on. Assumes nothing.
use Rattle.std.proofs.Common.{◌≡◌, ℕ, ◌+◌, ◌^◌, ◌<◌, ◌≤◌, List, [], ◌∷◌, ◌++◌, length, replicate, sym, refl, ap, ◌∙◌, arith, lit≤}
use Rattle.numbers.specs.BigEndian.{bytes_of, Bytes, written}
use Rattle.nodes.specs.declared.sort.PageSort.{PageSort}
use Rattle.nodes.specs.declared.sort.PageSort.TheVariants.{Inner, Leaf, Record}
use Rattle.nodes.specs.Sorts.{sort_number}
use Rattle.std.proofs.lemmas.List.{append_assoc, length-append}
use Rattle.std.specs.List.{flat_map, AllByRecursion}
use Rattle.nodes.specs.Layout.{padded, front_bytes, HeaderPage, header_image, InnerRow, row_bytes, RowFits, inner_image, InnerFits, entry_bytes, LeafEntry, EntryFits, leaf_image, LeafFits, record_image, RecordFits}
use Rattle.nodes.specs.Codec.{Spells}
use Rattle.nodes.specs.PageLaws.{length_padded, length_front, map_all, length_joined, length_postings, length_row, length_entry}
use Rattle.nodes.proofs.Padding.{padded_padded, padded_append, padded_full, step_on, blank}
use Rattle.nodes.proofs.Spelling.{made_record, record_spells, made_leaf, leaf_spells, made_row, made_inner, inner_spells, made_entry}

pub front_written : (sort : PageSort) (count next : ℕ) (a b d : List ℕ) → a ≡ padded 512 (sort_number sort ∷ 0 ∷ []) → b ≡ written a 2 (bytes_of 2 count) → d ≡ written b 4 (bytes_of 4 next) → d ≡ padded 512 (front_bytes sort count next)
front_written sort count next a b d e0 e1 e2 =
    let xs : List ℕ = sort_number sort ∷ 0 ∷ [] in
    let f1 = step_on 512 2 a xs (bytes_of 2 count) b e0 refl (lit≤ tt) e1 in
    step_on 512 4 b (xs ++ bytes_of 2 count) (bytes_of 4 next) d f1 refl (lit≤ tt) e2
    ∙ sym (padded_padded 512 32 (sort_number sort ∷ 0 ∷ (bytes_of 2 count ++ bytes_of 4 next)) (lit≤ tt) (lit≤ tt))

pub header_written : (v : HeaderPage) (p0 p1 p2 p3 p4 p5 p6 : List ℕ) → p0 ≡ padded 512 (1 ∷ v.kind_code ∷ []) → p1 ≡ written p0 2 (bytes_of 2 v.height) → p2 ≡ written p1 4 (bytes_of 4 v.root) → p3 ≡ written p2 8 (bytes_of 4 v.first_free) → p4 ≡ written p3 12 (bytes_of 4 v.free) → p5 ≡ written p4 16 (bytes_of 4 v.keys) → p6 ≡ written p5 20 (bytes_of 4 v.pages) → p6 ≡ header_image v
header_written v p0 p1 p2 p3 p4 p5 p6 e0 e1 e2 e3 e4 e5 e6 =
    let x0 : List ℕ = 1 ∷ v.kind_code ∷ [] in
    let x1 : List ℕ = x0 ++ bytes_of 2 v.height in
    let x2 : List ℕ = x1 ++ bytes_of 4 v.root in
    let x3 : List ℕ = x2 ++ bytes_of 4 v.first_free in
    let x4 : List ℕ = x3 ++ bytes_of 4 v.free in
    let x5 : List ℕ = x4 ++ bytes_of 4 v.keys in
    let f1 = step_on 512 2 p0 x0 (bytes_of 2 v.height) p1 e0 refl (lit≤ tt) e1 in
    let f2 = step_on 512 4 p1 x1 (bytes_of 4 v.root) p2 f1 refl (lit≤ tt) e2 in
    let f3 = step_on 512 8 p2 x2 (bytes_of 4 v.first_free) p3 f2 refl (lit≤ tt) e3 in
    let f4 = step_on 512 12 p3 x3 (bytes_of 4 v.free) p4 f3 refl (lit≤ tt) e4 in
    let f5 = step_on 512 16 p4 x4 (bytes_of 4 v.keys) p5 f4 refl (lit≤ tt) e5 in
    step_on 512 20 p5 x5 (bytes_of 4 v.pages) p6 f5 refl (lit≤ tt) e6

pub record_encoded : (next : ℕ) (ps front page : List ℕ) → 0 < length ps → length ps ≤ 60 → next < 2 ^ 32 → AllByRecursion (λ n. n < 2 ^ 64) ps → front ≡ padded 512 (front_bytes Record (length ps) next) → page ≡ written front 32 (flat_map (bytes_of 8) ps) → Spells record_image RecordFits page (made_record next ps)
record_encoded next ps front page some few fits each e w =
    let long = length_postings ps in
    record_spells page (made_record next ps)
    (record { next_fits = fits; has_a_posting = some; at_most_60_postings = few; each_posting_fits = each })
    (step_on 512 32 front (front_bytes Record (length ps) next) (flat_map (bytes_of 8) ps) page e (length_front Record (length ps) next) (omega arith) w)

pub leaf_encoded : (next : ℕ) (es : List LeafEntry) (front page : List ℕ) → length es ≤ 8 → next < 2 ^ 32 → AllByRecursion EntryFits es → front ≡ padded 512 (front_bytes Leaf (length es) next) → page ≡ written front 32 (flat_map entry_bytes es) → Spells leaf_image LeafFits page (made_leaf next es)
leaf_encoded next es front page few fits each e w =
    let long = length_joined 60 entry_bytes es (map_all EntryFits (λ x. length (entry_bytes x) ≡ 60) es length_entry each) in
    leaf_spells page (made_leaf next es)
    (record { next_fits = fits; at_most_8_entries = few; each_entry_fits = each })
    (step_on 512 32 front (front_bytes Leaf (length es) next) (flat_map entry_bytes es) page e (length_front Leaf (length es) next) (omega arith) w)

-- an inner node, from its first child on
pub inner_encoded : (first : ℕ) (rows : List InnerRow) (front headed page : List ℕ) → length rows ≤ 15 → first < 2 ^ 32 → AllByRecursion RowFits rows → front ≡ padded 512 (front_bytes Inner (1 + length rows) 0) → headed ≡ written front 32 (bytes_of 4 first) → page ≡ written headed 60 (flat_map row_bytes rows) → Spells inner_image InnerFits page (made_inner first rows)
inner_encoded first rows front headed page few fits each e h w =
    let begins = front_bytes Inner (1 + length rows) 0 in
    let row0 = padded 28 (bytes_of 4 first) in
    let l = length_front Inner (1 + length rows) 0 in
    let l1 = length_padded 28 (bytes_of 4 first) (lit≤ tt) in
    let one = length-append begins (bytes_of 4 first) in
    let two = length-append begins row0 in
    let long = length_joined 28 row_bytes rows (map_all RowFits (λ row. length (row_bytes row) ≡ 28) rows length_row each) in
    let is : headed ≡ padded 512 (front_bytes Inner (1 + length rows) 0 ++ padded 28 (bytes_of 4 first)) =
    step_on 512 32 front begins (bytes_of 4 first) headed e l (lit≤ tt) h
    ∙ sym (padded_padded 512 60 (begins ++ bytes_of 4 first) (omega arith) (lit≤ tt))
    ∙ ap (padded 512) (padded_append 60 32 28 begins (bytes_of 4 first) l refl) in
    inner_spells page (made_inner first rows)
    (record { first_fits = fits; at_most_15_rows = few; each_row_fits = each })
    (step_on 512 60 headed (begins ++ row0) (flat_map row_bytes rows) page is (omega arith) (omega arith) w
    ∙ ap (padded 512) (append_assoc begins row0 (flat_map row_bytes rows)))

pub row_written : (key : List ℕ) (child : ℕ) (a b : List ℕ) → length key ≡ 24 → a ≡ written (replicate 28 0) 0 (bytes_of 4 child) → b ≡ written a 4 key → b ≡ row_bytes (made_row key child)
row_written key child a b k e f =
    let one = step_on 28 0 (replicate 28 0) [] (bytes_of 4 child) a (blank 28) refl (lit≤ tt) e in
    step_on 28 4 a (bytes_of 4 child) key b one refl (omega arith) f
    ∙ padded_full 28 (bytes_of 4 child ++ key) (length-append (bytes_of 4 child) key ∙ omega arith)

grouped : (a b d e f : List ℕ) → (((a ++ b) ++ d) ++ e) ++ f ≡ a ++ (b ++ (d ++ (e ++ f)))
grouped a b d e f = simp append_assoc

-- an entry, from its key on
pub entry_encoded : (key inline : List ℕ) (head chained : ℕ) (a b d e f : List ℕ) → length key ≡ 24 → Bytes key → length inline ≤ 3 → AllByRecursion (λ n. n < 2 ^ 64) inline → head < 2 ^ 32 → chained < 2 ^ 32
    → a ≡ written (replicate 60 0) 0 key → b ≡ written a 24 (bytes_of 4 (length inline)) → d ≡ written b 28 (flat_map (bytes_of 8) inline) → e ≡ written d 52 (bytes_of 4 head) → f ≡ written e 56 (bytes_of 4 chained)
    → (f ≡ entry_bytes (made_entry key inline head chained)) × EntryFits (made_entry key inline head chained)
entry_encoded key inline head chained a b d e f k bytes few each hf cf e0 e1 e2 e3 e4 =
    let n = bytes_of 4 (length inline) in
    let js = flat_map (bytes_of 8) inline in
    let zs = padded 24 (flat_map (bytes_of 8) inline) in
    let long = length_postings inline in
    let l0 : length (key ++ bytes_of 4 (length inline)) ≡ 28 = length-append key n ∙ omega arith in
    let l1 : length (padded 24 (flat_map (bytes_of 8) inline)) ≡ 24 = length_padded 24 js (omega arith) in
    let l2 = length-append (key ++ n) js in
    let l3 : length ((key ++ bytes_of 4 (length inline)) ++ padded 24 (flat_map (bytes_of 8) inline)) ≡ 52 = length-append (key ++ n) zs ∙ omega arith in
    let l4 : length (((key ++ bytes_of 4 (length inline)) ++ padded 24 (flat_map (bytes_of 8) inline)) ++ bytes_of 4 head) ≡ 56 = length-append ((key ++ n) ++ zs) (bytes_of 4 head) ∙ omega arith in
    let one = step_on 60 0 (replicate 60 0) [] key a (blank 60) refl (omega arith) e0 in
    let two = step_on 60 24 a key n b one k (lit≤ tt) e1 in
    let three = step_on 60 28 b (key ++ n) js d two l0 (omega arith) e2 in
    let start : d ≡ padded 60 ((key ++ n) ++ zs) =
    three ∙ sym (padded_padded 60 52 ((key ++ n) ++ js) (omega arith) (lit≤ tt)) ∙ ap (padded 60) (padded_append 52 28 24 (key ++ n) js l0 refl) in
    let four = step_on 60 52 d ((key ++ n) ++ zs) (bytes_of 4 head) e start l3 (lit≤ tt) e3 in (
      step_on 60 56 e (((key ++ n) ++ zs) ++ bytes_of 4 head) (bytes_of 4 chained) f four l4 (lit≤ tt) e4
          ∙ padded_full 60 ((((key ++ n) ++ zs) ++ bytes_of 4 head) ++ bytes_of 4 chained) (length-append (((key ++ n) ++ zs) ++ bytes_of 4 head) (bytes_of 4 chained) ∙ omega arith)
          ∙ grouped key n zs (bytes_of 4 head) (bytes_of 4 chained),
      record { key_is_24_bytes = k; key_holds_bytes = bytes; at_most_3_inline = few; each_inline_fits = each; head_fits = hf; chained_fits = cf },
    )
