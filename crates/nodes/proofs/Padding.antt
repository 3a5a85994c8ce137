-- Bytes with zeros behind them, and more bytes written where the zeros begin. Assumes nothing.
use Rattle.std.proofs.Common.{◌≡◌, ℕ, zero, suc, ◌+◌, ◌-◌, ◌≤◌, Bool, cond, List, [], ◌∷◌, ◌++◌, length, take, drop, replicate, sym, ap, ◌∙◌, arith, le-leb}
use native.Mathlib.Nat.{sub-zero}
use Rattle.std.proofs.lemmas.List.{length-append, length-replicate, append_assoc, append-nil, take_at, drop_at, drop-drop, drop-replicate, replicate-append-replicate, length-take-le, length-drop}
use Rattle.std.specs.List.{flat_map, AllByRecursion}
use Rattle.numbers.specs.BigEndian.{Bytes, written}
use Rattle.nodes.specs.Layout.{padded}
use Rattle.nodes.specs.PageLaws.{length_padded}

pub padded_full : (size : ℕ) (xs : List ℕ) → length xs ≡ size → padded size xs ≡ xs
unfolding padded
padded_full size xs e =
    let none : size - length xs ≡ 0 = omega arith in
    ap (λ (n : ℕ). xs ++ replicate n 0) none ∙ append-nil xs

-- zeros up to one size and then to another
pub padded_padded : (size inner : ℕ) (xs : List ℕ) → length xs ≤ inner → inner ≤ size → padded size (padded inner xs) ≡ padded size xs
unfolding padded
padded_padded size inner xs h k =
    let long : length (xs ++ replicate (inner - length xs) 0) ≡ inner = length_padded inner xs h in
    let sum : inner - length xs + (size - inner) ≡ size - length xs = omega arith in
    ap (λ (n : ℕ). (xs ++ replicate (inner - length xs) 0) ++ replicate (size - n) 0) long
    ∙ append_assoc xs (replicate (inner - length xs) 0) (replicate (size - inner) 0)
    ∙ ap (λ (zs : List ℕ). xs ++ zs) (replicate-append-replicate (inner - length xs) (size - inner) 0 ∙ ap (λ (n : ℕ). replicate n 0) sum)

-- what stands in front of the padding stays
pub padded_append : (size at rest : ℕ) (xs ys : List ℕ) → length xs ≡ at → size ≡ at + rest → padded size (xs ++ ys) ≡ xs ++ padded rest ys
unfolding padded
padded_append size at rest xs ys e s =
    let l = length-append xs ys in
    let n : size - length (xs ++ ys) ≡ rest - length ys = omega arith in
    append_assoc xs ys (replicate (size - length (xs ++ ys)) 0) ∙ ap (λ (m : ℕ). xs ++ (ys ++ replicate m 0)) n

-- bytes written where the zeros begin
pub padded_step : (size at : ℕ) (xs new : List ℕ) → length xs ≡ at → at + length new ≤ size → written (padded size xs) at new ≡ padded size (xs ++ new)
unfolding padded written
padded_step size at xs new e room =
    let zs : List ℕ = replicate (size - length xs) 0 in
    let long : at + length new ≤ length (xs ++ replicate (size - length xs) 0) = simp (length-append, length-replicate) (omega arith) in
    let l = length-append xs new in
    let left : size - length xs - length new ≡ size - length (xs ++ new) = omega arith in
    let behind : drop (at + length new) (xs ++ zs) ≡ replicate (size - length (xs ++ new)) 0 =
    sym (drop-drop (length new) at (xs ++ zs))
    ∙ ap (drop (length new)) (drop_at xs zs at e)
    ∙ drop-replicate (length new) (size - length xs) 0
    ∙ ap (λ (n : ℕ). replicate n 0) left in
    ap (λ (b : Bool). cond b (take at (xs ++ zs) ++ (new ++ drop (at + length new) (xs ++ zs))) (xs ++ zs)) (le-leb (at + length new) (length (xs ++ zs)) long)
    ∙ ap (λ (ys : List ℕ). ys ++ (new ++ drop (at + length new) (xs ++ zs))) (take_at xs zs at e)
    ∙ ap (λ (ys : List ℕ). xs ++ (new ++ ys)) behind
    ∙ sym (append_assoc xs new (replicate (size - length (xs ++ new)) 0))

-- from a page that is known
pub step_on : (size at : ℕ) (page xs new after : List ℕ) → page ≡ padded size xs → length xs ≡ at → at + length new ≤ size → after ≡ written page at new → after ≡ padded size (xs ++ new)
step_on size at page xs new after e l room w = w ∙ ap (λ (p : List ℕ). written p at new) e ∙ padded_step size at xs new l room

-- bytes over a part, as the code writes them
pub written_part : (bytes new : List ℕ) (at : ℕ) → at + length new ≤ length bytes → take at bytes ++ (new ++ drop (at + length new) bytes) ≡ written bytes at new
unfolding written
written_part bytes new at h = rw (le-leb (at + length new) (length bytes) h)

pub length_written : (bytes new : List ℕ) (at : ℕ) → at + length new ≤ length bytes → length (written bytes at new) ≡ length bytes
length_written bytes new at h =
    ap length (sym (written_part bytes new at h)) ∙ (let a = length-take-le at bytes (omega arith) in simp (length-append, length-drop) (omega arith))

pub bytes_append : (xs ys : List ℕ) → Bytes xs → Bytes ys → Bytes (xs ++ ys)
bytes_append [] ys h k = k
bytes_append (x ∷ xs) ys h k = (h.0, bytes_append xs ys h.1 k)

bytes_zeros : (n : ℕ) → Bytes (replicate n 0)
bytes_zeros zero = tt
bytes_zeros (suc n) = (omega arith, bytes_zeros n)

pub bytes_padded : (size : ℕ) (xs : List ℕ) → Bytes xs → Bytes (padded size xs)
unfolding padded
bytes_padded size xs h = bytes_append xs (replicate (size - length xs) 0) h (bytes_zeros (size - length xs))

pub bytes_joined : {X : Type 0} (f : X → List ℕ) (xs : List X) → AllByRecursion (λ x. Bytes (f x)) xs → Bytes (flat_map f xs)
bytes_joined f [] h = tt
bytes_joined f (x ∷ xs) h = bytes_append (f x) (flat_map f xs) h.0 (bytes_joined f xs h.1)

pub blank : (size : ℕ) → replicate size 0 ≡ padded size []
unfolding padded
blank size = ap (λ (n : ℕ). replicate n 0) (sym (sub-zero size))
