-- A number and its bytes, there and back, over the width. Assumes nothing.
use Rattle.std.proofs.Common.{◌≡◌, ℕ, zero, suc, ◌+◌, ◌-◌, ◌/◌, ◌%◌, ◌^◌, ◌<◌, ◌≤◌, leb, List, [], ◌∷◌, ◌++◌, length, get_or, take, drop, sym, refl, ap, ◌∙◌, subst, ⊎_elim, pow-suc, arith, length-append, le-leb}
use borrow.Author.Tests.{lt-leb}
use Rattle.std.proofs.lemmas.List.{nil_from_length, take_all, take_more, length-take-le, length_push, take_at, drop_at, drop-drop, length-drop, length-take, take-take, drop-take}
use Rattle.std.proofs.lemmas.Int.Digits.{number_push}
use Rattle.std.proofs.lemmas.Bool.{cases_lt}
use Rattle.numbers.specs.BigEndian.{number_of, bytes_of, Bytes, part, number_at}

pub length_bytes_of : (width n : ℕ) → length (bytes_of width n) ≡ width
length_bytes_of zero n = refl
length_bytes_of (suc width) n = let ih = length_bytes_of width (n / 256) in length_push (bytes_of width (n / 256)) (n % 256) ∙ omega arith

bytes_push : (xs : List ℕ) (x : ℕ) → Bytes xs → x < 256 → Bytes (xs ++ (x ∷ []))
bytes_push [] x h k = (k, tt)
bytes_push (y ∷ ys) x h k = (h.0, bytes_push ys x h.1 k)

pub bytes_bytes_of : (width n : ℕ) → Bytes (bytes_of width n)
bytes_bytes_of zero n = tt
bytes_bytes_of (suc width) n = bytes_push (bytes_of width (n / 256)) (n % 256) (bytes_bytes_of width (n / 256)) (omega arith)

-- a number that fits is the number of its bytes
pub number_bytes_of : (width n : ℕ) → n < 256 ^ width → number_of (bytes_of width n) ≡ n
number_bytes_of zero n h = omega arith
number_bytes_of (suc width) n h =
    let ih = number_bytes_of width (n / 256) (omega (arith, pow-suc 256 width)) in
    number_push 256 (bytes_of width (n / 256)) (n % 256) ∙ omega arith

all_front : (n : ℕ) (xs : List ℕ) → Bytes xs → Bytes (take n xs)
all_front zero xs h = tt
all_front (suc n) [] h = tt
all_front (suc n) (x ∷ xs) h = (h.0, all_front n xs h.1)

pub byte_at : (xs : List ℕ) (i : ℕ) → Bytes xs → i < length xs → get_or xs i 0 < 256
byte_at [] i h k = absurd (omega arith)
byte_at (x ∷ xs) zero h k = h.0
byte_at (x ∷ xs) (suc i) h k = byte_at xs i h.1 (omega arith)

pushed_bytes : (width x : ℕ) (xs : List ℕ) → x < 256 → bytes_of width (number_of xs) ≡ xs → bytes_of (suc width) (number_of (xs ++ (x ∷ []))) ≡ xs ++ (x ∷ [])
pushed_bytes width x xs small ih =
    let e = number_push 256 xs x in
    let q : number_of (xs ++ (x ∷ [])) / 256 ≡ number_of xs = omega arith in
    let r : number_of (xs ++ (x ∷ [])) % 256 ≡ x = omega arith in
    ap (λ (m : ℕ). bytes_of width m ++ (number_of (xs ++ (x ∷ [])) % 256 ∷ [])) q
    ∙ ap (λ (m : ℕ). bytes_of width (number_of xs) ++ (m ∷ [])) r
    ∙ ap (λ (ys : List ℕ). ys ++ (x ∷ [])) ih

-- bytes are those of their number
pub bytes_of_number : (width : ℕ) (xs : List ℕ) → length xs ≡ width → Bytes xs → bytes_of width (number_of xs) ≡ xs
bytes_of_number zero xs e h = sym (nil_from_length xs e)
bytes_of_number (suc width) xs e h =
    let front : xs ≡ take width xs ++ (get_or xs width 0 ∷ []) = sym (take_all (width + 1) xs (omega arith)) ∙ take_more xs width 0 (omega arith) in
    let short : length (take width xs) ≡ width = length-take-le width xs (omega arith) in
    let P : List ℕ → Type 0 = λ ys. bytes_of (suc width) (number_of ys) ≡ ys in
    subst P (sym front)
    (pushed_bytes width (get_or xs width 0) (take width xs) (byte_at xs width h (omega arith)) (bytes_of_number width (take width xs) short (all_front width xs h)))

-- the number that stands between what is before and what is after
pub number_between : (width at : ℕ) (a b d : List ℕ) → length a ≡ at → length b ≡ width → number_at width (a ++ (b ++ d)) at ≡ number_of b
unfolding number_at
number_between width at a b d e f =
    let long : at + width ≤ length (a ++ (b ++ d)) = simp length-append (omega arith) in
    rw (le-leb (at + width) (length (a ++ (b ++ d))) long) (rw (drop_at a (b ++ d) at e, take_at b d width f))

leb_same : (a b m n : ℕ) → (a ≤ b → m ≤ n) → (m ≤ n → a ≤ b) → leb a b ≡ leb m n
leb_same a b m n to from =
    ⊎_elim (λ g. lt-leb a b g ∙ sym (lt-leb m n (⊎_elim (λ h. h) (λ l. absurd (let q = from l in omega arith)) (cases_lt n m)))) (λ l. le-leb a b l ∙ sym (le-leb m n (to l))) (cases_lt b a)

-- a number in what is left after a front
pub number_drop : (width skip at : ℕ) (bytes : List ℕ) → skip ≤ length bytes → number_at width (drop skip bytes) at ≡ number_at width bytes (skip + at)
unfolding number_at
number_drop width skip at bytes h =
    let e = length-drop skip bytes in
    let same = leb_same (at + width) (length (drop skip bytes)) (skip + at + width) (length bytes) (λ l. omega arith) (λ l. omega arith) in
    rw (same, drop-drop at skip bytes)

-- a part of a part
pub part_part : (at size k width : ℕ) (bytes : List ℕ) → k + width ≤ size → part k width (part at size bytes) ≡ part (at + k) width bytes
part_part at size k width bytes h =
    let e : size ≡ k + (size - k) = omega arith in
    let one : drop k (take (k + (size - k)) (drop at bytes)) ≡ take (size - k) (drop k (drop at bytes)) = drop-take k (size - k) (drop at bytes) in
    ap (λ (n : ℕ). take width (drop k (take n (drop at bytes)))) e
    ∙ ap (λ (xs : List ℕ). take width xs) one
    ∙ take-take width (size - k) (drop k (drop at bytes)) (omega arith)
    ∙ ap (λ (xs : List ℕ). take width xs) (drop-drop k at bytes)

pub length_part : (at size : ℕ) (bytes : List ℕ) → at + size ≤ length bytes → length (part at size bytes) ≡ size
length_part at size bytes h = simp (length-take, length-drop) (omega arith)

-- a number in a part
pub number_part : (width at size k : ℕ) (bytes : List ℕ) → at + size ≤ length bytes → k + width ≤ size → number_at width (part at size bytes) k ≡ number_at width bytes (at + k)
unfolding number_at
number_part width at size k bytes h within =
    let long : k + width ≤ length (part at size bytes) = omega (arith, length_part at size bytes h) in
    let whole : at + k + width ≤ length bytes = omega arith in
    rw (le-leb (k + width) (length (part at size bytes)) long, le-leb (at + k + width) (length bytes) whole, part_part at size k width bytes within)

-- a number that is there is that of its part
pub number_is : (width at : ℕ) (bytes : List ℕ) → at + width ≤ length bytes → number_at width bytes at ≡ number_of (part at width bytes)
unfolding number_at
number_is width at bytes h = rw (le-leb (at + width) (length bytes) h)

-- where every place holds a byte
pub bytes_from_cells : (xs : List ℕ) → ((i : ℕ) → get_or xs i 0 < 256) → Bytes xs
bytes_from_cells [] h = tt
bytes_from_cells (x ∷ xs) h = (h 0, bytes_from_cells xs (λ i. h (suc i)))

-- bytes as quotients by powers of 256
pub two_bytes_of : (n : ℕ) → bytes_of 2 n ≡ (n / 256 % 256) ∷ (n % 256) ∷ []
two_bytes_of n = refl

pub four_bytes_of : (n : ℕ) → bytes_of 4 n ≡ (n / 16777216 % 256) ∷ (n / 65536 % 256) ∷ (n / 256 % 256) ∷ (n % 256) ∷ []
four_bytes_of n =
    let a : n / 256 / 256 ≡ n / 65536 = omega arith in
    let b : n / 256 / 256 / 256 ≡ n / 16777216 = omega arith in
    rw (b, a)

pub eight_bytes_of : (n : ℕ) → bytes_of 8 n ≡ (n / 72057594037927936 % 256) ∷ (n / 281474976710656 % 256) ∷ (n / 1099511627776 % 256) ∷ (n / 4294967296 % 256) ∷ (n / 16777216 % 256) ∷ (n / 65536 % 256) ∷ (n / 256 % 256) ∷ (n % 256) ∷ []
eight_bytes_of n =
    let a : n / 256 / 256 ≡ n / 65536 = omega arith in
    let b : n / 256 / 256 / 256 ≡ n / 16777216 = omega arith in
    let d : n / 256 / 256 / 256 / 256 ≡ n / 4294967296 = omega arith in
    let e : n / 256 / 256 / 256 / 256 / 256 ≡ n / 1099511627776 = omega arith in
    let f : n / 256 / 256 / 256 / 256 / 256 / 256 ≡ n / 281474976710656 = omega arith in
    let g : n / 256 / 256 / 256 / 256 / 256 / 256 / 256 ≡ n / 72057594037927936 = omega arith in
    rw (g, f, e, d, b, a)
