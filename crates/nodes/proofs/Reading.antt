-- What the code reads is what stands in the bytes. Assumes nothing.
use Rattle.std.proofs.Common.{◌≡◌, ℕ, ◌-◌, min, max, List, map, get_or, drop, ap, ◌∙◌}
use Rattle.numbers.specs.BigEndian.{number_of, part, number_at}
use Rattle.nodes.specs.Layout.{InnerRow, LeafEntry}
use Rattle.nodes.specs.Readings.{pieces, header_in, record_in, row_in, inner_in, entry_in, leaf_in}
use Rattle.nodes.proofs.Spelling.{made_header, made_record, made_row, made_inner, made_entry, made_leaf}

pub header_read : (page : List ℕ) (a b d e f g h : ℕ) → a ≡ get_or page 1 0 → b ≡ number_at 2 page 2 → d ≡ number_at 4 page 4 → e ≡ number_at 4 page 8 → f ≡ number_at 4 page 12 → g ≡ number_at 4 page 16 → h ≡ number_at 4 page 20 → made_header a b d e f g h ≡ header_in page
unfolding header_in
header_read page a b d e f g h p0 p1 p2 p3 p4 p5 p6 =
    ap (λ (n : ℕ). made_header n b d e f g h) p0
    ∙ ap (λ (n : ℕ). made_header (get_or page 1 0) n d e f g h) p1
    ∙ ap (λ (n : ℕ). made_header (get_or page 1 0) (number_at 2 page 2) n e f g h) p2
    ∙ ap (λ (n : ℕ). made_header (get_or page 1 0) (number_at 2 page 2) (number_at 4 page 4) n f g h) p3
    ∙ ap (λ (n : ℕ). made_header (get_or page 1 0) (number_at 2 page 2) (number_at 4 page 4) (number_at 4 page 8) n g h) p4
    ∙ ap (λ (n : ℕ). made_header (get_or page 1 0) (number_at 2 page 2) (number_at 4 page 4) (number_at 4 page 8) (number_at 4 page 12) n h) p5
    ∙ ap (λ (n : ℕ). made_header (get_or page 1 0) (number_at 2 page 2) (number_at 4 page 4) (number_at 4 page 8) (number_at 4 page 12) (number_at 4 page 16) n) p6

pub record_read : (page ps : List ℕ) (next count : ℕ) → next ≡ number_at 4 page 4 → count ≡ min (max (number_at 2 page 2) 1) 60 → ps ≡ map number_of (pieces 8 count (drop 32 page)) → made_record next ps ≡ record_in page
unfolding record_in
record_read page ps next count n c so =
    ap (λ (m : ℕ). made_record m ps) n
    ∙ ap (made_record (number_at 4 page 4)) (so ∙ ap (λ (m : ℕ). map number_of (pieces 8 m (drop 32 page))) c)

pub row_read : (piece key : List ℕ) (child : ℕ) → key ≡ part 4 24 piece → child ≡ number_at 4 piece 0 → made_row key child ≡ row_in piece
unfolding row_in
row_read piece key child k c = ap (λ (ys : List ℕ). made_row ys child) k ∙ ap (made_row (part 4 24 piece)) c

pub inner_read : (page : List ℕ) (rows : List InnerRow) (first count : ℕ) → first ≡ number_at 4 page 32 → count ≡ min (number_at 2 page 2 - 1) 15 → rows ≡ map row_in (pieces 28 count (drop 60 page)) → made_inner first rows ≡ inner_in page
unfolding inner_in
inner_read page rows first count n c so =
    ap (λ (m : ℕ). made_inner m rows) n
    ∙ ap (made_inner (number_at 4 page 32)) (so ∙ ap (λ (m : ℕ). map row_in (pieces 28 m (drop 60 page))) c)

pub entry_read : (piece key inline : List ℕ) (head chained count : ℕ) → key ≡ part 0 24 piece → count ≡ min (number_at 4 piece 24) 3 → inline ≡ map number_of (pieces 8 count (drop 28 piece)) → head ≡ number_at 4 piece 52 → chained ≡ number_at 4 piece 56 → made_entry key inline head chained ≡ entry_in piece
unfolding entry_in
entry_read piece key inline head chained count f c so h d =
    ap (λ (ys : List ℕ). made_entry ys inline head chained) f
    ∙ ap (λ (ys : List ℕ). made_entry (part 0 24 piece) ys head chained) (so ∙ ap (λ (m : ℕ). map number_of (pieces 8 m (drop 28 piece))) c)
    ∙ ap (λ (m : ℕ). made_entry (part 0 24 piece) (map number_of (pieces 8 (min (number_at 4 piece 24) 3) (drop 28 piece))) m chained) h
    ∙ ap (λ (m : ℕ). made_entry (part 0 24 piece) (map number_of (pieces 8 (min (number_at 4 piece 24) 3) (drop 28 piece))) (number_at 4 piece 52) m) d

pub leaf_read : (page : List ℕ) (entries : List LeafEntry) (next count : ℕ) → next ≡ number_at 4 page 4 → count ≡ min (number_at 2 page 2) 8 → entries ≡ map entry_in (pieces 60 count (drop 32 page)) → made_leaf next entries ≡ leaf_in page
unfolding leaf_in
leaf_read page entries next count n c so =
    ap (λ (m : ℕ). made_leaf m entries) n
    ∙ ap (made_leaf (number_at 4 page 4)) (so ∙ ap (λ (m : ℕ). map entry_in (pieces 60 m (drop 32 page))) c)
