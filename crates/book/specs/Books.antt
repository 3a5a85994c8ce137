-- What a book is: keys in rising order, each with what stands under it. One definition serves the plain book, whose keys
-- have lists of postings, and the entries of pages, whose keys have the same postings in inline places and records.
use Rattle.std.specs.Prelude.{◌≡◌, ℕ, ◌+◌, ◌^◌, ◌<◌, ◌≤◌, Bool, true, false, cond, List, [], ◌∷◌, length, Some, None, Option, ◌==◌, nat_le}
use Rattle.std.specs.declared.cmp.Ordering.TheVariants.{Less, Equal, Greater}
use Rattle.std.specs.declared.cmp.Ordering.{Ordering}
use Rattle.std.specs.Ordering.{is_eq}
use Rattle.std.specs.List.{AllByRecursion}
use Rattle.keys.specs.Kinds.{Kind, Field}
use Rattle.batches.specs.KeyCheck.{above}

-- a key and what stands under it
pub record Held (V : Type 0) : Type 0 where
  pub key : Field
  pub value : V

-- a way of keeping postings under a key
pub record Keeping (V : Type 0) : Type 0 where
  pub none : V
  pub is_none : V → Bool
  pub posted : ℕ → V → V
  pub cancelled : ℕ → V → V
  pub postings : V → List ℕ

-- one of three, by the answer of a comparison
abbrev pub by_order : {X : Type 0} → Ordering → (less equal greater : X) → X
by_order Less less equal greater = less
by_order Equal less equal greater = equal
by_order Greater less equal greater = greater

-- how often a number stands in a list
abbrev pub count : ℕ → List ℕ → ℕ
count n [] = 0
count n (m ∷ ms) = cond (n == m) 1 0 + count n ms

abbrev pub has : ℕ → List ℕ → Bool
has n ms = nat_le 1 (count n ms)

-- a list with a number taken out
abbrev pub without : ℕ → List ℕ → List ℕ
without n [] = []
without n (m ∷ ms) = cond (n == m) ms (m ∷ without n ms)

-- newest first: a posting goes in front of its key's list
abbrev pub newest_first : ℕ → List ℕ → List ℕ
newest_first n ps = n ∷ ps

abbrev pub no_postings : List ℕ → Bool
no_postings [] = true
no_postings (p ∷ ps) = false

-- the plain book keeps a list of postings under each key
abbrev pub plain : Keeping (List ℕ)
plain = record { none = []; is_none = no_postings; posted = newest_first; cancelled = without; postings = λ ps. ps }

abbrev pub Book : Type 0
Book = List (Held (List ℕ))

-- what stands under a key
abbrev pub value_at : {V : Type 0} → Kind → Keeping V → Field → List (Held V) → V
value_at kind keeping key [] = keeping.none
value_at kind keeping key (held ∷ rest) = cond (is_eq (kind.order key held.key)) held.value (value_at kind keeping key rest)

-- a key and its value in front of others; a key without postings is left out
abbrev pub put : {V : Type 0} → Keeping V → Field → V → List (Held V) → List (Held V)
put keeping key value rest = cond (keeping.is_none value) rest (record { key = key; value = value } ∷ rest)

-- the value under a key changed, in its place among the rising keys
abbrev pub changed : {V : Type 0} → Kind → Keeping V → Field → (V → V) → List (Held V) → List (Held V)
changed kind keeping key f [] = put keeping key (f keeping.none) []
changed kind keeping key f (held ∷ rest) =
    by_order (kind.order key held.key) (put keeping key (f keeping.none) (held ∷ rest)) (put keeping key (f held.value) rest) (held ∷ changed kind keeping key f rest)

-- the postings of a key, the newest first
abbrev pub postings_of : Kind → Book → Field → List ℕ
postings_of kind book key = value_at kind plain key book

-- keys are lawful and rise strictly, from above one before if there is one
abbrev pub SortedFrom : {V : Type 0} → Kind → Option Field → List (Held V) → Type 0
SortedFrom kind before [] = Unit {0}
SortedFrom kind before (held ∷ rest) = (kind.lawful held.key ≡ true) × (above kind before held.key ≡ true) × SortedFrom kind (Some held.key) rest

abbrev pub Sorted : {V : Type 0} → Kind → List (Held V) → Type 0
Sorted kind list = SortedFrom kind None list

abbrev pub PostingNumber : ℕ → Type 0
PostingNumber n = (1 ≤ n) × (n < 2 ^ 63)

-- the postings of a key: at least one, none twice, each a posting number
pub record Postings (ps : List ℕ) : Type 0 where
  pub at_least_one : 1 ≤ length ps
  pub none_twice : (n : ℕ) → count n ps ≤ 1
  pub are_posting_numbers : AllByRecursion PostingNumber ps

pub record IsBook (kind : Kind) (book : Book) : Type 0 where
  pub keys_rise : Sorted kind book
  pub keys_hold_postings : AllByRecursion (λ (held : Held (List ℕ)). Postings held.value) book
