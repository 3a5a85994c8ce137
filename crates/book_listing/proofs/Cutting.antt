-- A key up to its first zero; a number's figures. Assumes nothing.
use Rattle.std.proofs.Common.{◌≡◌, ℕ, ◌+◌, ◌/◌, ◌%◌, ◌^◌, ◌<◌, ◌≤◌, Bool, true, false, not, cond, eqb, ltb, List, length, take, decimal, Some, None, sym, refl, ap, ◌∙◌, arith}
use Rattle.std.specs.List.{position, prefix_len}
use Rattle.std.proofs.lemmas.Fmt.{decimal_step}
use Rattle.std.proofs.lemmas.List.{length-take, length_push, take_all}
use Rattle.std.proofs.lemmas.Bool.{ltb-false}
use Rattle.book_listing.specs.Text.{until_zero}

pub until_short : (key : List ℕ) → length (until_zero key) ≤ length key
until_short key = omega (arith, length-take {A = ℕ})

module _ (key : List ℕ) where
  abbrev first : ℕ
  first = prefix_len (λ b. not (eqb b 0)) key

  pub word_ends : (end : ℕ) → position (λ b. eqb b 0) key ≡ Some end → take end key ≡ until_zero key
  word_ends end is = go (ltb first (length key)) is
    where
      go : (t : Bool) → cond t (Some first) None ≡ Some end → take end key ≡ until_zero key
      go true e = let n : first ≡ end = cc in ap (λ (m : ℕ). take m key) (sym n)
      go false e = absurd cc

  pub word_fills : position (λ b. eqb b 0) key ≡ None → key ≡ until_zero key
  word_fills is = go (ltb first (length key)) refl is
    where
      go : (t : Bool) → ltb first (length key) ≡ t → cond t (Some first) None ≡ None → key ≡ until_zero key
      go true h e = absurd cc
      go false h e = sym (take_all first key (ltb-false first (length key) h))

-- a figure more
pub longer_by_one : (n : ℕ) → 10 ≤ n → n < 2 ^ 64 → length (decimal n) ≡ length (decimal (n / 10)) + 1
longer_by_one n h fits = ap length (decimal_step n h fits) ∙ length_push (decimal (n / 10)) (48 + n % 10)
