-- What holds of each element of lists put together, and of each number that a list counts. Assumes nothing.
use Rattle.std.proofs.Common.{ℕ, ◌*◌, ◌≤◌, List, [], ◌∷◌, ◌++◌, map, length, refl, mul-zero, mul-suc, arith, length-append}
use Rattle.std.specs.List.{flat_map, AllByRecursion}
use Rattle.book.specs.Books.{count}
use Rattle.book.proofs.Counting.{one_same}
use Rattle.tree.specs.Trees.{Branch, Inner, each_child}

pub all_front : {X : Type 0} (P : X → Type 0) (xs ys : List X) → AllByRecursion P (xs ++ ys) → AllByRecursion P xs
all_front P [] ys h = tt
all_front P (x ∷ xs) ys h = (h.0, all_front P xs ys h.1)

pub all_back : {X : Type 0} (P : X → Type 0) (xs ys : List X) → AllByRecursion P (xs ++ ys) → AllByRecursion P ys
all_back P [] ys h = h
all_back P (x ∷ xs) ys h = all_back P xs ys h.1

pub all_parts : {X Y : Type 0} (P : Y → Type 0) (f : X → List Y) (xs : List X) → AllByRecursion P (flat_map f xs) → AllByRecursion (λ x. AllByRecursion P (f x)) xs
all_parts P f [] h = tt
all_parts P f (x ∷ xs) h = (all_front P (f x) (flat_map f xs) h, all_parts P f xs (all_back P (f x) (flat_map f xs) h))

pub all_unmapped : {X Y : Type 0} (P : Y → Type 0) (f : X → Y) (xs : List X) → AllByRecursion P (map f xs) → AllByRecursion (λ x. P (f x)) xs
all_unmapped P f [] h = tt
all_unmapped P f (x ∷ xs) h = (h.0, all_unmapped P f xs h.1)

pub all_both : {X : Type 0} (P Q : X → Type 0) (xs : List X) → AllByRecursion P xs → AllByRecursion Q xs → AllByRecursion (λ x. P x × Q x) xs
all_both P Q [] h k = tt
all_both P Q (x ∷ xs) h k = ((h.0, k.0), all_both P Q xs h.1 k.1)

-- of every child of an inner node
pub all_first : {X Y : Type 0} (P : Y → Type 0) (f : X → List Y) (node : Inner X) → AllByRecursion P (each_child f node) → AllByRecursion P (f node.first)
all_first {X = X} P f node h = all_front P (f node.first) (flat_map (λ (branch : Branch X). f branch.child) node.rest) h

pub all_rest : {X Y : Type 0} (P : Y → Type 0) (f : X → List Y) (node : Inner X) → AllByRecursion P (each_child f node) → AllByRecursion (λ (branch : Branch X). AllByRecursion P (f branch.child)) node.rest
all_rest {X = X} P f node h =
    all_parts P (λ (branch : Branch X). f branch.child) node.rest (all_back P (f node.first) (flat_map (λ (branch : Branch X). f branch.child) node.rest) h)

-- of each number that stands in a list
pub all_counted : (P : ℕ → Type 0) (list : List ℕ) → ((n : ℕ) → 1 ≤ count n list → P n) → AllByRecursion P list
all_counted P [] h = tt
all_counted P (m ∷ ms) h = (h m (omega (arith, one_same m m refl)), all_counted P ms (λ n k. h n (omega arith)))

-- no list is longer than all of them joined
longer : {X Y : Type 0} (f : X → List Y) (most less : ℕ) (xs : List X) → less ≤ most → AllByRecursion (λ x. length (f x) ≤ less) xs → AllByRecursion (λ x. length (f x) ≤ most) xs
longer f most less [] h all = tt
longer f most less (x ∷ xs) h all = (let here = all.0 in omega arith, longer f most less xs h all.1)

pub each_shorter : {X Y : Type 0} (f : X → List Y) (xs : List X) → AllByRecursion (λ x. length (f x) ≤ length (flat_map f xs)) xs
each_shorter f [] = tt
each_shorter f (x ∷ xs) =
    let all = length-append (f x) (flat_map f xs) in
    (omega arith, longer f (length (flat_map f (x ∷ xs))) (length (flat_map f xs)) xs (omega arith) (each_shorter f xs))

-- lists of at most so many, joined
pub joined_most : {X Y : Type 0} (f : X → List Y) (most : ℕ) (xs : List X) → AllByRecursion (λ x. length (f x) ≤ most) xs → length (flat_map f xs) ≤ most * length xs
joined_most f most [] all = omega (arith, mul-zero most)
joined_most f most (x ∷ xs) all =
    let ih = joined_most f most xs all.1 in
    let here = all.0 in
    omega (arith, mul-suc most (length xs), length-append (f x) (flat_map f xs))
