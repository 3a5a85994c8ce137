-- Unsigned numbers in bytes, the most significant byte first.
use Rattle.std.specs.Prelude.{◌≡◌, ℕ, zero, suc, ◌+◌, ◌/◌, ◌%◌, ◌^◌, ◌<◌, cond, List, [], ◌∷◌, ◌++◌, length, take, drop, nat_le}
use Rattle.std.specs.Int.Digits.{number_from_digits}
use Rattle.std.specs.List.{AllByRecursion}

-- the number that bytes write
abbrev pub number_of : List ℕ → ℕ
number_of bytes = number_from_digits 256 bytes

-- a number in so many bytes
abbrev pub bytes_of : (width n : ℕ) → List ℕ
bytes_of zero n = []
bytes_of (suc width) n = bytes_of width (n / 256) ++ (n % 256 ∷ [])

-- each a byte
abbrev pub Bytes : List ℕ → Type 0
Bytes xs = AllByRecursion (λ x. x < 256) xs

-- so many bytes from a place on
abbrev pub part : (at width : ℕ) → List ℕ → List ℕ
part at width bytes = take width (drop at bytes)

-- the number in so many bytes from a place on, and 0 where the bytes end before it
unfoldable pub number_at : (width : ℕ) → List ℕ → (at : ℕ) → ℕ
number_at width bytes at = cond (nat_le (at + width) (length bytes)) (number_of (part at width bytes)) 0

-- bytes with others written over them from a place on, and as they were where these do not fit
unfoldable pub written : List ℕ → (at : ℕ) → List ℕ → List ℕ
written bytes at new = cond (nat_le (at + length new) (length bytes)) (take at bytes ++ (new ++ drop (at + length new) bytes)) bytes

-- a number that fits its width comes back from its bytes, and bytes come back from their number
abbrev pub NumbersAndBytesAgree : Type 0
NumbersAndBytesAgree =
    ((width n : ℕ) → n < 256 ^ width → number_of (bytes_of width n) ≡ n)
    × ((bytes : List ℕ) → Bytes bytes → bytes_of (length bytes) (number_of bytes) ≡ bytes)
