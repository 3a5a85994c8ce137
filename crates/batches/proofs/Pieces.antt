-- Pieces of one width. Assumes nothing.
use Rattle.std.proofs.Common.{◌≡◌, ℕ, zero, suc, ◌+◌, ◌-◌, ◌*◌, ◌/◌, ◌<◌, ◌≤◌, List, [], ◌++◌, length, get_or, take, drop, refl, ap, ◌∙◌, mul_comm, mul-suc, arith, take-add}
use Rattle.std.proofs.Math.Nat.{mul-div_cancel}
use Rattle.std.proofs.lemmas.List.{drop-drop, drop-take, take_at, get_or-map, length-map, length-drop, length-take-le}
use Rattle.std.specs.Simd.{first_chunks}
use Rattle.numbers.specs.BigEndian.{part}
use Rattle.batches.specs.Reading.{pieces, content_of, contents_in, row_count, cell_of, cells_in, line_count}

pub length_pieces : (width count : ℕ) (bytes : List ℕ) → length (first_chunks width count bytes) ≡ count
length_pieces width zero bytes = refl
length_pieces width (suc count) bytes = ap suc (length_pieces width count (drop width bytes))

-- piece i of what begins at a place
pub get_d_pieces : (width count i at : ℕ) (bytes : List ℕ) → i < count → get_or (pieces width count (drop at bytes)) i [] ≡ part (at + width * i) width bytes
get_d_pieces width zero i at bytes h = absurd (omega arith)
get_d_pieces width (suc count) zero at bytes h = let e : at + width * 0 ≡ at = omega arith in rw e
get_d_pieces width (suc count) (suc i) at bytes h =
    let e : at + width + width * i ≡ at + width * suc i = omega (arith, mul-suc width i) in
    rw (drop-drop width at bytes, get_d_pieces width count i (at + width) bytes (omega arith), e)

-- the pieces of bytes are those of a front that holds them
pieces_of_front : (width count : ℕ) (bytes : List ℕ) → count * width ≤ length bytes → first_chunks width count (take (count * width) bytes) ≡ first_chunks width count bytes
pieces_of_front width zero bytes h = refl
pieces_of_front width (suc count) bytes h =
    let e : suc count * width ≡ width + count * width = omega (arith, mul_comm (suc count) width, mul-suc width count, mul_comm count width) in
    let cut : take (width + count * width) bytes ≡ take width bytes ++ take (count * width) (drop width bytes) = take-add width (count * width) bytes in
    let front : take width (take (width + count * width) bytes) ≡ take width bytes = rw cut (take_at (take width bytes) (take (count * width) (drop width bytes)) width (length-take-le width bytes (omega arith))) in
    let ih = pieces_of_front width count (drop width bytes) (omega (arith, length-drop width bytes)) in
    rw (e, front, drop-take width (count * width) bytes, ih)

-- what `as_chunks` cuts a front into
pub chunks_of_front : (width count at : ℕ) (bytes : List ℕ) → 0 < width → at + count * width ≤ length bytes → first_chunks width (length (take (at + count * width - at) (drop at bytes)) / width) (take (at + count * width - at) (drop at bytes)) ≡ first_chunks width count (drop at bytes)
chunks_of_front width count at bytes some h =
    let e : at + count * width - at ≡ count * width = omega arith in
    let long : length (take (count * width) (drop at bytes)) ≡ count * width = length-take-le (count * width) (drop at bytes) (omega (arith, length-drop at bytes)) in
    rw (e, long, mul-div_cancel count some) (pieces_of_front width count (drop at bytes) (omega (arith, length-drop at bytes)))

pub length_contents : (bytes : List ℕ) → length (contents_in bytes) ≡ row_count bytes
unfolding contents_in
length_contents bytes = length-map (first_chunks 32 (row_count bytes) (drop 16 bytes)) content_of ∙ length_pieces 32 (row_count bytes) (drop 16 bytes)

pub get_d_contents : (bytes : List ℕ) (i : ℕ) → i < row_count bytes → get_or (contents_in bytes) i (content_of []) ≡ content_of (part (16 + 32 * i) 32 bytes)
unfolding contents_in
get_d_contents bytes i h =
    get_or-map content_of (pieces 32 (row_count bytes) (drop 16 bytes)) i [] (content_of []) (omega (arith, length_pieces 32 (row_count bytes) (drop 16 bytes)))
    ∙ ap content_of (get_d_pieces 32 (row_count bytes) i 16 bytes h)

pub length_cells : (bytes : List ℕ) → length (cells_in bytes) ≡ line_count bytes
unfolding cells_in
length_cells bytes =
    let from : ℕ = 16 + 32 * row_count bytes in
    length-map (first_chunks 9 (line_count bytes) (drop from bytes)) cell_of ∙ length_pieces 9 (line_count bytes) (drop from bytes)

pub get_d_cells : (bytes : List ℕ) (j : ℕ) → j < line_count bytes → get_or (cells_in bytes) j (cell_of []) ≡ cell_of (part (16 + 32 * row_count bytes + 9 * j) 9 bytes)
unfolding cells_in
get_d_cells bytes j h =
    let from : ℕ = 16 + 32 * row_count bytes in
    get_or-map cell_of (pieces 9 (line_count bytes) (drop from bytes)) j [] (cell_of []) (omega (arith, length_pieces 9 (line_count bytes) (drop from bytes)))
    ∙ ap cell_of (get_d_pieces 9 (line_count bytes) j from bytes h)
