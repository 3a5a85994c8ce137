-- A maker's own kind: a branch of four capital letters, a voucher number of four bytes, 16 zeros.
use Rattle.std.specs.Prelude.{ℕ, Bool, ◌&&◌, length, drop, ◌==◌, nat_le, slice_index}
use Rattle.std.specs.declared.cmp.Ordering.{Ordering}
use Rattle.std.specs.Ordering.{ordering_then}
use Rattle.numbers.specs.BigEndian.{number_at}
use Rattle.keys.specs.Kinds.{Field}
use Rattle.keys.specs.Fields.{zeros_only, bytes_only, by_number}

abbrev pub capital : ℕ → Bool
capital b = nat_le 65 b && nat_le b 90

-- the letters read as one number, so that A comes before B
abbrev pub branch_of : Field → ℕ
branch_of f = number_at 4 f 0

abbrev pub voucher_of : Field → ℕ
voucher_of f = number_at 4 f 4

abbrev pub capitals : Field → Bool
capitals f = capital (slice_index f 0) && (capital (slice_index f 1) && (capital (slice_index f 2) && capital (slice_index f 3)))

-- a branch, a voucher number, then zeros, all of them bytes
unfoldable pub voucher_zeros : Field → Bool
voucher_zeros f = capitals f && (zeros_only (drop 8 f) && bytes_only f)

abbrev pub lawful_voucher : Field → Bool
lawful_voucher f = length f == 24 && voucher_zeros f

-- by branch, then by voucher number
abbrev pub by_branch_and_voucher : Field → Field → Ordering
by_branch_and_voucher a b = ordering_then (by_number (branch_of a) (branch_of b)) (by_number (voucher_of a) (voucher_of b))
