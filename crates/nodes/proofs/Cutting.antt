-- Bytes cut into pieces of one width, and what the pieces hold. Assumes nothing.
use Rattle.std.proofs.Common.{◌≡◌, ℕ, zero, suc, ◌+◌, ◌*◌, ◌^◌, ◌<◌, ◌≤◌, List, [], ◌∷◌, ◌++◌, map, length, take, drop, sym, refl, ap, ◌∙◌, mul-zero, mul-suc, add-one, arith}
use Rattle.std.proofs.lemmas.List.{append_assoc, take_at, drop_at, drop-drop}
use Rattle.std.specs.List.{flat_map, AllByRecursion}
use Rattle.numbers.specs.BigEndian.{bytes_of, part, number_at}
use Rattle.numbers.proofs.Spelling.{length_bytes_of, number_bytes_of, number_between}
use Rattle.std.specs.Simd.{first_chunks}
use Rattle.nodes.specs.Readings.{pieces}

-- what was put together from pieces is cut into them again
pub pieces_joined : {X : Type 0} (width : ℕ) (f : X → List ℕ) (g : List ℕ → X) (xs : List X) (rest : List ℕ) → AllByRecursion (λ x. (length (f x) ≡ width) × (g (f x) ≡ x)) xs → map g (pieces width (length xs) (flat_map f xs ++ rest)) ≡ xs
pieces_joined width f g [] rest h = refl
pieces_joined width f g (x ∷ xs) rest h =
    let whole : (f x ++ flat_map f xs) ++ rest ≡ f x ++ (flat_map f xs ++ rest) = append_assoc (f x) (flat_map f xs) rest in
    let front : take width ((f x ++ flat_map f xs) ++ rest) ≡ f x = ap (take width) whole ∙ take_at (f x) (flat_map f xs ++ rest) width h.0.0 in
    let back : drop width ((f x ++ flat_map f xs) ++ rest) ≡ flat_map f xs ++ rest = ap (drop width) whole ∙ drop_at (f x) (flat_map f xs ++ rest) width h.0.0 in
    ap (λ (piece : List ℕ). g piece ∷ map g (pieces width (length xs) (drop width ((f x ++ flat_map f xs) ++ rest)))) front
    ∙ ap (λ (y : _). y ∷ map g (pieces width (length xs) (drop width ((f x ++ flat_map f xs) ++ rest)))) h.0.1
    ∙ ap (λ (bytes : List ℕ). x ∷ map g (pieces width (length xs) bytes)) back
    ∙ ap (λ (ys : List _). x ∷ ys) (pieces_joined width f g xs rest h.1)

pieces_suc : (width i : ℕ) (bytes : List ℕ) → pieces width (suc i) bytes ≡ pieces width i bytes ++ (part (width * i) width bytes ∷ [])
pieces_suc width zero bytes = ap (λ (n : ℕ). take width (drop n bytes) ∷ []) (sym (mul-zero width))
pieces_suc width (suc i) bytes =
    let e : width + width * i ≡ width * suc i = omega (arith, mul-suc width i) in
    ap (λ (ps : List (List ℕ)). take width bytes ∷ ps) (pieces_suc width i (drop width bytes))
    ∙ ap (λ (b : List ℕ). take width bytes ∷ (pieces width i (drop width bytes) ++ (take width b ∷ []))) (drop-drop (width * i) width bytes ∙ ap (λ (n : ℕ). drop n bytes) e)

-- one piece more
pub pieces_more : (width at i : ℕ) (bytes : List ℕ) → pieces width (i + 1) (drop at bytes) ≡ pieces width i (drop at bytes) ++ (part (at + width * i) width bytes ∷ [])
pieces_more width at i bytes =
    ap (λ (n : ℕ). pieces width n (drop at bytes)) (add-one i)
    ∙ pieces_suc width i (drop at bytes)
    ∙ ap (λ (b : List ℕ). pieces width i (drop at bytes) ++ (take width b ∷ [])) (drop-drop (width * i) at bytes)

-- the machine's chunks are the pieces
pub chunks_are_pieces : (width count : ℕ) (bytes : List ℕ) → first_chunks width count bytes ≡ pieces width count bytes
chunks_are_pieces width zero bytes = refl
chunks_are_pieces width (suc count) bytes = ap (λ (ps : List (List ℕ)). take width bytes ∷ ps) (chunks_are_pieces width count (drop width bytes))

take_pieces : (width count most : ℕ) (bytes : List ℕ) → count ≤ most → take count (pieces width most bytes) ≡ pieces width count bytes
take_pieces width zero most bytes h = refl
take_pieces width (suc count) zero bytes h = absurd (omega arith)
take_pieces width (suc count) (suc most) bytes h = ap (λ (ps : List (List ℕ)). take width bytes ∷ ps) (take_pieces width count most (drop width bytes) (omega arith))

length_pieces : (width count : ℕ) (bytes : List ℕ) → length (pieces width count bytes) ≡ count
length_pieces width zero bytes = refl
length_pieces width (suc count) bytes = ap (λ (n : ℕ). suc n) (length_pieces width count (drop width bytes))

-- the first of the chunks that the machine cuts
pub first_pieces : (width most count : ℕ) (cut bytes : List ℕ) (chunks : List (List ℕ)) → chunks ≡ first_chunks width most cut → cut ≡ bytes → count ≤ length chunks → take count chunks ≡ pieces width count bytes
first_pieces width most count cut bytes chunks e same h =
    let are : chunks ≡ pieces width most cut = e ∙ chunks_are_pieces width most cut in
    let enough : count ≤ most = let l = ap length are ∙ length_pieces width most cut in omega arith in
    ap (take count) are ∙ (take_pieces width count most cut enough ∙ ap (pieces width count) same)

-- a number that stands in bytes
pub number_there : (width at n : ℕ) (bytes front rest : List ℕ) → bytes ≡ front ++ (bytes_of width n ++ rest) → length front ≡ at → n < 256 ^ width → number_at width bytes at ≡ n
number_there width at n bytes front rest e l h =
    ap (λ (b : List ℕ). number_at width b at) e
    ∙ number_between width at front (bytes_of width n) rest l (length_bytes_of width n)
    ∙ number_bytes_of width n h
