-- A part of a memory, after a write to a part of it.
use Rattle.std.proofs.Common.{◌≡◌, ℕ, ◌+◌, ◌≤◌, List, ◌++◌, length, take, drop, sym, refl, ap, ◌∙◌, arith}
use borrow.Rule.Slice.PartMut.{put_mid}
use Rattle.std.proofs.lemmas.List.{take_at, drop_at, drop-take, drop-drop, length-take-le, length-append, length-take, length-drop}
use Rattle.std.proofs.lemmas.Slice.{take-put_mid_below, drop-put_mid}
use Rattle.std.proofs.lemmas.Bool.{le-leb}
use Rattle.numbers.specs.BigEndian.{part, written}

-- what a write to a part leaves, as the code has it and as the contracts say it
pub written_is : (m b : List ℕ) (a v : ℕ) → v ≡ length b → a + v ≤ length m → put_mid a v m b ≡ written m a b
unfolding written
written_is m b a v e h =
    let fits : a + length b ≤ length m = omega arith in
    rw (le-leb (a + length b) (length m) fits, e) (ap (λ (rest : List ℕ). take a m ++ (b ++ rest)) (drop-drop (length b) a m))

module _ (m b : List ℕ) (a : ℕ) (h : a + length b ≤ length m) where
  back : written m a b ≡ put_mid a (length b) m b
  back = sym (written_is m b a (length b) refl h)

  pub length_written : length (written m a b) ≡ length m
  length_written = ap length back ∙ simp (length-append, length-take, length-drop) (omega arith)

  pub part_there : part a (length b) (written m a b) ≡ b
  part_there =
      ap (part a (length b)) back
      ∙ (ap (take (length b)) (drop_at (take a m) (b ++ drop (length b) (drop a m)) a (length-take-le a m (omega arith))) ∙ take_at b (drop (length b) (drop a m)) (length b) refl)

  pub part_below : (i w : ℕ) → i + w ≤ a → part i w (written m a b) ≡ part i w m
  part_below i w l =
      ap (part i w) back
      ∙ (sym (drop-take i w (put_mid a (length b) m b)) ∙ (ap (drop i) (take-put_mid_below a (length b) m b (i + w) l (omega arith)) ∙ drop-take i w m))

  pub part_above : (i w : ℕ) → a + length b ≤ i → part i w (written m a b) ≡ part i w m
  part_above i w l = ap (part i w) back ∙ ap (take w) (drop-put_mid a (length b) m b i l (omega arith) refl)

-- the same, with what stands behind the code's references and in its arithmetic
pub same_part : (m m' : List ℕ) (a a' v w : ℕ) → m ≡ m' → a ≡ a' → v ≡ w → part a v m ≡ part a' w m'
same_part m m' a a' v w e f g = rw (e, f, g)

pub put_back : (m m' b b' : List ℕ) (a a' v : ℕ) → m' ≡ m → b' ≡ b → a' ≡ a → v ≡ length b → a + v ≤ length m → put_mid a' v m' b' ≡ written m a b
put_back m m' b b' a a' v e f i g h = rw (e, f, i) (written_is m b a v g h)
