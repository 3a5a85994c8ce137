-- Bytes written over others from a place on. Assumes nothing.
use Rattle.std.proofs.Common.{◌≡◌, ℕ, ◌+◌, ◌<◌, ◌≤◌, List, ◌++◌, length, take, drop, sym, refl, ap, ◌∙◌, ⊎_elim, arith}
use Rattle.std.proofs.lemmas.List.{append_assoc, length-append, length-take-le, take_at, drop_at, drop-drop}
use Rattle.std.proofs.lemmas.Bool.{cases_lt, lt-leb}
use Rattle.numbers.specs.BigEndian.{written}
use Rattle.nodes.proofs.Padding.{written_part}
use Rattle.nodes.proofs.Padding.{length_written as length-written-within}

-- nothing is written where the bytes do not fit
pub written_past : (bytes new : List ℕ) (at : ℕ) → length bytes < at + length new → written bytes at new ≡ bytes
unfolding written
written_past bytes new at h = rw (lt-leb (at + length new) (length bytes) h)

pub length_written : (bytes new : List ℕ) (at : ℕ) → length (written bytes at new) ≡ length bytes
length_written bytes new at =
    ⊎_elim (λ h. ap length (written_past bytes new at h)) (λ h. length-written-within bytes new at h) (cases_lt (length bytes) (at + length new))

pub written_is : (bytes new : List ℕ) (at end : ℕ) → end ≡ at + length new → end ≤ length bytes → written bytes at new ≡ take at bytes ++ (new ++ drop end bytes)
written_is bytes new at end e h =
    let room : at + length new ≤ length bytes = omega arith in
    sym (written_part bytes new at room) ∙ ap (λ (n : ℕ). take at bytes ++ (new ++ drop n bytes)) (sym e)

-- what stands before the end of what was written, and behind it
pub take_written : (bytes new : List ℕ) (at end : ℕ) → end ≡ at + length new → end ≤ length bytes → take end (written bytes at new) ≡ take at bytes ++ new
take_written bytes new at end e h =
    let front : length (take at bytes) ≡ at = length-take-le at bytes (omega arith) in
    let long : length (take at bytes ++ new) ≡ end = length-append (take at bytes) new ∙ omega arith in
    ap (take end) (written_is bytes new at end e h ∙ sym (append_assoc (take at bytes) new (drop end bytes)))
    ∙ take_at (take at bytes ++ new) (drop end bytes) end long

pub drop_written : (bytes new : List ℕ) (at end : ℕ) → end ≡ at + length new → end ≤ length bytes → drop end (written bytes at new) ≡ drop end bytes
drop_written bytes new at end e h =
    let front : length (take at bytes) ≡ at = length-take-le at bytes (omega arith) in
    let long : length (take at bytes ++ new) ≡ end = length-append (take at bytes) new ∙ omega arith in
    ap (drop end) (written_is bytes new at end e h ∙ sym (append_assoc (take at bytes) new (drop end bytes)))
    ∙ drop_at (take at bytes ++ new) (drop end bytes) end long

-- bytes written behind others
pub written_twice : (bytes a b : List ℕ) (at mid : ℕ) → mid ≡ at + length a → mid + length b ≤ length bytes → written (written bytes at a) mid b ≡ written bytes at (a ++ b)
written_twice bytes a b at mid e h =
    let once = written bytes at a in
    let same = length_written bytes a at in
    let both = length-append a b in
    let end : ℕ = mid + length b in
    let behind : drop (mid + length b) (written bytes at a) ≡ drop (mid + length b) bytes =
    sym (drop-drop (length b) mid (written bytes at a)) ∙ ap (drop (length b)) (drop_written bytes a at mid e (omega arith)) ∙ drop-drop (length b) mid bytes in
    written_is (written bytes at a) b mid (mid + length b) refl (omega arith)
    ∙ ap (λ (xs : List ℕ). xs ++ (b ++ drop (mid + length b) (written bytes at a))) (take_written bytes a at mid e (omega arith))
    ∙ ap (λ (xs : List ℕ). (take at bytes ++ a) ++ (b ++ xs)) behind
    ∙ append_assoc (take at bytes) a (b ++ drop (mid + length b) bytes)
    ∙ ap (λ (xs : List ℕ). take at bytes ++ xs) (sym (append_assoc a b (drop (mid + length b) bytes)))
    ∙ sym (written_is bytes (a ++ b) at (mid + length b) (omega arith) h)
