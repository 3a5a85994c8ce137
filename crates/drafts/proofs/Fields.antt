-- A key over zeros. Assumes nothing.
use Rattle.std.proofs.Common.{◌≡◌, ℕ, ◌+◌, ◌-◌, min, List, ◌++◌, length, take, drop, replicate, sym, ap, ◌∙◌, ⊎_elim, arith}
use Rattle.std.proofs.Math.Seq.{take-append-add}
use Rattle.std.proofs.lemmas.Bool.{cases_lt}
use Rattle.std.proofs.lemmas.List.{drop-replicate, take-replicate, take-append-le, take_all, append-nil}
use Rattle.drafts.specs.Drafted.{field_of}

pub key_over_zeros : (key : List ℕ) (n : ℕ) → n ≡ min (length key) 24 → take n key ++ drop n (replicate 24 0) ≡ field_of key
key_over_zeros key n is =
    ap (λ (xs : List ℕ). take n key ++ xs) (drop-replicate n 24 0)
    ∙ ⊎_elim
    (λ short.
    let all : n ≡ length key = omega arith in
    let rest : length key + (24 - length key) ≡ 24 = omega arith in
    ap (λ (m : ℕ). take m key ++ replicate (24 - m) 0) all
    ∙ ap (λ (xs : List ℕ). xs ++ replicate (24 - length key) 0) (take_all (length key) key (omega arith))
    ∙ ap (λ (xs : List ℕ). key ++ xs) (sym (take-replicate (24 - length key) 24 0 (omega arith)))
    ∙ sym (take-append-add key (replicate 24 0) (24 - length key))
    ∙ ap (λ (m : ℕ). take m (key ++ replicate 24 0)) rest)
    (λ long.
    let full : n ≡ 24 = omega arith in
    ap (λ (m : ℕ). take m key ++ replicate (24 - m) 0) full
    ∙ append-nil (take 24 key)
    ∙ sym (take-append-le 24 key (replicate 24 0) (omega arith)))
    (cases_lt (length key) 24)
