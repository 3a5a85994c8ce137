-- Bytes written over others. Assumes nothing.
use Rattle.std.proofs.Common.{◌≡◌, ℕ, zero, suc, ◌+◌, ◌-◌, ◌<◌, ◌≤◌, min, List, [], ◌++◌, length, take, drop, sym, refl, ap, ◌∙◌, ⊎_elim, add-zero, zero-add, arith, le-leb, length-drop}
use borrow.Author.Tests.{lt-leb}
use borrow.Rule.Slice.PartMut.{post_of}
use Rattle.std.proofs.lemmas.Bool.{cases_lt}
use Rattle.std.proofs.lemmas.List.{take-append-drop, append-nil, drop_all, take_all, drop-drop}
use Rattle.numbers.specs.BigEndian.{bytes_of, written}
use Rattle.numbers.proofs.Spelling.{length_bytes_of}

-- over the first bytes
pub written_front : (width n : ℕ) (bytes front : List ℕ) → width ≤ length bytes → front ≡ bytes_of width n → front ++ drop width bytes ≡ written bytes 0 (bytes_of width n)
unfolding written
written_front width n bytes front h e =
    let l = length_bytes_of width n in
    let fits : 0 + length (bytes_of width n) ≤ length bytes = omega arith in
    let z = zero-add width in
    rw (e, le-leb (0 + length (bytes_of width n)) (length bytes) fits, l, z)

-- nothing where there is no room
pub written_past : (width n : ℕ) (bytes : List ℕ) (at : ℕ) → length bytes < at + width → bytes ≡ written bytes at (bytes_of width n)
unfolding written
written_past width n bytes at h =
    let l = length_bytes_of width n in
    let past : length bytes < at + length (bytes_of width n) = omega arith in
    rw (lt-leb (at + length (bytes_of width n)) (length bytes) past)

-- over the bytes from a place on
pub written_there : (width n : ℕ) (bytes : List ℕ) (at : ℕ) → at + width ≤ length bytes → take at bytes ++ (bytes_of width n ++ drop (at + width) bytes) ≡ written bytes at (bytes_of width n)
unfolding written
written_there width n bytes at h =
    let l = length_bytes_of width n in
    let fits : at + length (bytes_of width n) ≤ length bytes = omega arith in
    rw (le-leb (at + length (bytes_of width n)) (length bytes) fits, l)

-- no bytes change nothing
written_nothing : (bytes : List ℕ) (at : ℕ) → written bytes at [] ≡ bytes
unfolding written
written_nothing bytes at =
    ⊎_elim
    (λ (past : length bytes < at). let h : length bytes < at + 0 = omega arith in rw (lt-leb (at + 0) (length bytes) h))
    (λ (fits : at ≤ length bytes). let h : at + 0 ≤ length bytes = omega arith in rw (le-leb (at + 0) (length bytes) h, add-zero at, take-append-drop at bytes))
    (cases_lt (length bytes) at)

written_rest : (width n : ℕ) (bytes : List ℕ) (at from : ℕ) (rest : List ℕ) → from ≡ min at (length bytes) → rest ≡ written (drop from bytes) 0 (bytes_of width n) → take from bytes ++ rest ≡ written bytes at (bytes_of width n)
written_rest zero n bytes at from rest e r =
    rw (r, written_nothing (drop from bytes) 0, written_nothing bytes at, take-append-drop from bytes)
written_rest (suc width) n bytes at from rest e r =
    ⊎_elim
    (λ (past : length bytes < at + suc width).
    let short : length (drop from bytes) < 0 + suc width = simp length-drop (omega arith) in
    let same : rest ≡ drop from bytes = r ∙ sym (written_past (suc width) n (drop from bytes) 0 short) in
    rw (same, take-append-drop from bytes) (written_past (suc width) n bytes at past))
    (λ (fits : at + suc width ≤ length bytes).
    let there : from ≡ at = omega arith in
    let room : suc width ≤ length (drop from bytes) = simp length-drop (omega arith) in
    let over : rest ≡ bytes_of (suc width) n ++ drop (suc width) (drop from bytes) = r ∙ sym (written_front (suc width) n (drop from bytes) (bytes_of (suc width) n) room refl) in
    rw (over, there, drop-drop (suc width) at bytes) (written_there (suc width) n bytes at fits))
    (cases_lt (length bytes) (at + suc width))

-- over the first bytes of those from a place on, or of none where it is past their end
pub written_from : (width n : ℕ) (bytes : List ℕ) (at from : ℕ) (rest : List ℕ) → from ≡ min at (length bytes) → rest ≡ written (take (length bytes - from) (drop from bytes)) 0 (bytes_of width n) → take from bytes ++ (rest ++ post_of from (length bytes - from) bytes) ≡ written bytes at (bytes_of width n)
written_from width n bytes at from rest e r =
    let short : length (drop from bytes) ≤ length bytes - from = simp length-drop (omega arith) in
    let end : post_of from (length bytes - from) bytes ≡ [] = drop_all (length bytes - from) (drop from bytes) short in
    let whole : take (length bytes - from) (drop from bytes) ≡ drop from bytes = take_all (length bytes - from) (drop from bytes) short in
    rw (end, append-nil rest) (written_rest width n bytes at from rest e (rw whole at r))

-- over all bytes there are
pub written_whole : (width n len : ℕ) (bytes : List ℕ) → width ≡ len → length bytes ≡ len → written bytes 0 (bytes_of width n) ≡ bytes_of len n
written_whole width n len bytes e l =
    let room : width ≤ length bytes = omega arith in
    let none : drop width bytes ≡ [] = drop_all width bytes (omega arith) in
    sym (written_front width n bytes (bytes_of width n) room refl) ∙ rw (none, append-nil (bytes_of width n)) (ap (λ (w : ℕ). bytes_of w n) e)
