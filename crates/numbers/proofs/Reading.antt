-- Numbers by their bytes. Assumes nothing.
use Rattle.std.proofs.Common.{◌≡◌, ℕ, zero, suc, ◌+◌, ◌-◌, ◌*◌, ◌<◌, ◌≤◌, min, List, [], ◌∷◌, length, take, drop, get_or, sym, refl, ap, ◌∙◌, ⊎_elim, add-zero, arith, le-leb, nat_le, cond, true, false, length-take, length-drop}
use borrow.Author.Tests.{lt-leb}
use Rattle.std.proofs.lemmas.List.{drop_more, take_all}
use Rattle.std.proofs.lemmas.Bool.{cases_lt}
use Rattle.numbers.specs.BigEndian.{number_of, part, number_at}
use Rattle.numbers.proofs.Spelling.{number_part, number_drop}

-- where the bytes end before it
pub number_past : (width : ℕ) (bytes : List ℕ) (at : ℕ) → length bytes < at + width → number_at width bytes at ≡ 0
unfolding number_at
number_past width bytes at h = rw (lt-leb (at + width) (length bytes) h)

-- the bytes from a place on, one by one
abbrev pub cells : List ℕ → ℕ → (k width : ℕ) → List ℕ
cells bytes at k zero = []
cells bytes at k (suc width) = get_or bytes (at + k) 0 ∷ cells bytes at (suc k) width

pub part_cells : (bytes : List ℕ) (at k width : ℕ) → at + k + width ≤ length bytes → part (at + k) width bytes ≡ cells bytes at k width
part_cells bytes at k zero h = refl
part_cells bytes at k (suc width) h =
    let within : at + k < length bytes = omega arith in
    let next : at + k + 1 ≡ at + suc k = omega arith in
    rw (drop_more bytes (at + k) 0 within, next) (ap (λ (rest : List ℕ). get_or bytes (at + k) 0 ∷ rest) (part_cells bytes at (suc k) width (omega arith)))

pub number_cells : (width : ℕ) (bytes : List ℕ) (at : ℕ) → at + width ≤ length bytes → number_at width bytes at ≡ number_of (cells bytes at 0 width)
unfolding number_at
number_cells width bytes at h =
    let start : at + 0 ≡ at = omega arith in
    rw (le-leb (at + width) (length bytes) h) (ap number_of (rw start at (part_cells bytes at 0 width (omega arith))))

-- the number of as many bytes as it has
pub number_whole : (width : ℕ) (bytes field : List ℕ) → width ≤ length bytes → field ≡ take width bytes → number_at width bytes 0 ≡ number_of (cells field 0 0 width)
number_whole width bytes field h e =
    let front : number_at width (part 0 width bytes) 0 ≡ number_at width bytes (0 + 0) = number_part width 0 width 0 bytes (omega arith) (omega arith) in
    let long : 0 + width ≤ length (take width bytes) = simp length-take (omega arith) in
    rw e (sym front ∙ number_cells width (take width bytes) 0 long)

number_of_none : (width : ℕ) (bytes : List ℕ) (at : ℕ) → length bytes ≤ at → number_at width bytes at ≡ 0
unfolding number_at
number_of_none zero bytes at h = elim (nat_le (at + zero) (length bytes)) as (λ b. let v : ℕ = cond b 0 0 in v ≡ 0) [ true ↦ refl | false ↦ refl ]
number_of_none (suc width) bytes at h = number_past (suc width) bytes at (omega arith)

-- the first bytes of those from a place on, or of none where it is past their end
pub number_from : (width : ℕ) (bytes : List ℕ) (at : ℕ) → number_at width (take (length bytes - min at (length bytes)) (drop (min at (length bytes)) bytes)) 0 ≡ number_at width bytes at
number_from width bytes at =
    let from = min at (length bytes) in
    let whole : take (length bytes - from) (drop from bytes) ≡ drop from bytes = take_all (length bytes - from) (drop from bytes) (simp length-drop (omega arith)) in
    rw whole
    (⊎_elim
    (λ (past : length bytes < at). rw (number_of_none width bytes at (omega arith), number_of_none width (drop (min at (length bytes)) bytes) 0 (simp length-drop (omega arith))))
    (λ (within : at ≤ length bytes). let e : min at (length bytes) ≡ at = omega arith in rw (e, number_drop width at 0 bytes within, add-zero at))
    (cases_lt (length bytes) at))

-- the number of the first four bytes, byte by byte
pub four_whole : (bytes : List ℕ) → 4 ≤ length bytes → number_at 4 bytes 0 ≡ 16777216 * get_or (take 4 bytes) 0 0 + (65536 * get_or (take 4 bytes) 1 0 + (256 * get_or (take 4 bytes) 2 0 + get_or (take 4 bytes) 3 0))
four_whole bytes h = let e = number_whole 4 bytes (take 4 bytes) h refl in omega (arith, e)
