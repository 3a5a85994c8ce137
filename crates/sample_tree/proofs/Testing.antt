-- Tests that compute, and what they show: that values fit their pages, that entries keep their rules, that a list counts each number once. Assumes nothing.
use Rattle.std.proofs.Common.{◌≡◌, ℕ, zero, suc, ◌^◌, ◌<◌, ◌≤◌, Bool, true, cond, ◌&&◌, eqb, ltb, leb, ◌⊎◌, List, [], ◌∷◌, length, sym, refl, ap, ◌∙◌, inl, inr, arith}
use Rattle.std.proofs.lemmas.Bool.{and_parts, ltb-true, leb-true, eqb-true, cases_eq, cases_lt, lt-ltb, le-ltb, cond-true, cond-false}
use Rattle.std.specs.List.{AllByRecursion}
use Rattle.book.specs.Books.{count, PostingNumber}
use Rattle.book.proofs.Counting.{one_same, one_other}
use Rattle.numbers.specs.BigEndian.{Bytes}
use Rattle.nodes.specs.Layout.{HeaderPage, HeaderFits, InnerRow, RowFits, LeafEntry, LeafPage, LeafFits, InnerPage, InnerFits, RecordPage, RecordFits, FreePage, FreeFits}
use Rattle.nodes.specs.Layout.{EntryFits as EntryFitsIn}
use Rattle.tree.specs.Trees.{RecordAt, EntryAt, Branch, Tree}
use Rattle.tree.specs.Valid.{postings_at, EntryFits}
use Rattle.tree.proofs.Fitting.{leaf_page, inner_page, record_page, ChainFits, NodesFit}

-- a test of each element, and of each of a list of tests
abbrev every : {X : Type 0} → (X → Bool) → List X → Bool
every test [] = true
every test (x ∷ xs) = test x && every test xs

every_all : {X : Type 0} (test : X → Bool) (P : X → Type 0) → ((x : X) → test x ≡ true → P x) → (xs : List X) → every test xs ≡ true → AllByRecursion P xs
every_all test P shows [] e = tt
every_all test P shows (x ∷ xs) e = let p = and_parts (test x) (every test xs) e in (shows x p.0, every_all test P shows xs p.1)

abbrev pub passed : List Bool → Bool
passed tests = every (λ (test : Bool). test) tests

pub each : (tests : List Bool) → passed tests ≡ true → AllByRecursion (λ (test : Bool). test ≡ true) tests
each tests e = every_all (λ (test : Bool). test) (λ (test : Bool). test ≡ true) (λ test h. h) tests e

-- values fit their pages
abbrev number_fits : ℕ → Bool
number_fits n = ltb n (2 ^ 64)

abbrev pub link_fits : ℕ → Bool
link_fits n = ltb n (2 ^ 32)

link_fits_below : (n : ℕ) → link_fits n ≡ true → n < 2 ^ 32
link_fits_below n e = ltb-true n (2 ^ 32) e

numbers_fit : (ns : List ℕ) → every number_fits ns ≡ true → AllByRecursion (λ n. n < 2 ^ 64) ns
numbers_fit ns e = every_all number_fits (λ n. n < 2 ^ 64) (λ n h. ltb-true n (2 ^ 64) h) ns e

bytes_fit : (bytes : List ℕ) → every (λ b. ltb b 256) bytes ≡ true → Bytes bytes
bytes_fit bytes e = every_all (λ b. ltb b 256) (λ b. b < 256) (λ b h. ltb-true b 256 h) bytes e

abbrev pub header_tests : HeaderPage → List Bool
header_tests v = ltb v.kind_code 256 ∷ ltb v.height 65536 ∷ link_fits v.root ∷ link_fits v.first_free ∷ link_fits v.free ∷ link_fits v.keys ∷ link_fits v.pages ∷ []

pub header_passes : (v : HeaderPage) → passed (header_tests v) ≡ true → HeaderFits v
header_passes v e =
    let p = each (header_tests v) e in
    record {
      kind_code_is_a_byte = ltb-true v.kind_code 256 p.0;
      height_fits = ltb-true v.height 65536 p.1.0;
      root_fits = link_fits_below v.root p.1.1.0;
      first_free_fits = link_fits_below v.first_free p.1.1.1.0;
      free_fits = link_fits_below v.free p.1.1.1.1.0;
      keys_fit = link_fits_below v.keys p.1.1.1.1.1.0;
      pages_fit = link_fits_below v.pages p.1.1.1.1.1.1.0;
    }

pub free_passes : (v : FreePage) → link_fits v.next ≡ true → FreeFits v
free_passes v e = record { next_fits = link_fits_below v.next e }

abbrev pub record_tests : RecordPage → List Bool
record_tests v = link_fits v.next ∷ leb 1 (length v.postings) ∷ leb (length v.postings) 60 ∷ every number_fits v.postings ∷ []

pub record_passes : (v : RecordPage) → passed (record_tests v) ≡ true → RecordFits v
record_passes v e =
    let p = each (record_tests v) e in
    record {
      next_fits = link_fits_below v.next p.0;
      has_a_posting = leb-true 1 (length v.postings) p.1.0;
      at_most_60_postings = leb-true (length v.postings) 60 p.1.1.0;
      each_posting_fits = numbers_fit v.postings p.1.1.1.0;
    }

abbrev entry_tests : LeafEntry → List Bool
entry_tests v = eqb (length v.key) 24 ∷ every (λ b. ltb b 256) v.key ∷ leb (length v.inline) 3 ∷ every number_fits v.inline ∷ link_fits v.head ∷ link_fits v.chained ∷ []

entry_passes : (v : LeafEntry) → passed (entry_tests v) ≡ true → EntryFitsIn v
entry_passes v e =
    let p = each (entry_tests v) e in
    record {
      key_is_24_bytes = eqb-true (length v.key) 24 p.0;
      key_holds_bytes = bytes_fit v.key p.1.0;
      at_most_3_inline = leb-true (length v.inline) 3 p.1.1.0;
      each_inline_fits = numbers_fit v.inline p.1.1.1.0;
      head_fits = link_fits_below v.head p.1.1.1.1.0;
      chained_fits = link_fits_below v.chained p.1.1.1.1.1.0;
    }

abbrev pub leaf_tests : LeafPage → List Bool
leaf_tests v = link_fits v.next ∷ leb (length v.entries) 8 ∷ every (λ (e : LeafEntry). passed (entry_tests e)) v.entries ∷ []

pub leaf_passes : (v : LeafPage) → passed (leaf_tests v) ≡ true → LeafFits v
leaf_passes v e =
    let p = each (leaf_tests v) e in
    record {
      next_fits = link_fits_below v.next p.0;
      at_most_8_entries = leb-true (length v.entries) 8 p.1.0;
      each_entry_fits = every_all (λ (x : LeafEntry). passed (entry_tests x)) EntryFitsIn entry_passes v.entries p.1.1.0;
    }

abbrev row_tests : InnerRow → List Bool
row_tests v = eqb (length v.key) 24 ∷ every (λ b. ltb b 256) v.key ∷ link_fits v.child ∷ []

row_passes : (v : InnerRow) → passed (row_tests v) ≡ true → RowFits v
row_passes v e =
    let p = each (row_tests v) e in
    record { key_is_24_bytes = eqb-true (length v.key) 24 p.0; key_holds_bytes = bytes_fit v.key p.1.0; child_fits = link_fits_below v.child p.1.1.0 }

abbrev pub inner_tests : InnerPage → List Bool
inner_tests v = link_fits v.first ∷ leb (length v.rows) 15 ∷ every (λ (row : InnerRow). passed (row_tests row)) v.rows ∷ []

pub inner_passes : (v : InnerPage) → passed (inner_tests v) ≡ true → InnerFits v
inner_passes v e =
    let p = each (inner_tests v) e in
    record {
      first_fits = link_fits_below v.first p.0;
      at_most_15_rows = leb-true (length v.rows) 15 p.1.0;
      each_row_fits = every_all (λ (row : InnerRow). passed (row_tests row)) RowFits row_passes v.rows p.1.1.0;
    }

-- and so do the nodes of a tree
abbrev chain_passes : List RecordAt → Bool
chain_passes [] = true
chain_passes (first ∷ rest) = passed (record_tests (record_page first rest)) && chain_passes rest

chain_passes_fits : (records : List RecordAt) → chain_passes records ≡ true → ChainFits records
chain_passes_fits [] e = tt
chain_passes_fits (first ∷ rest) e =
    let p = and_parts (passed (record_tests (record_page first rest))) (chain_passes rest) e in
    (record_passes (record_page first rest) p.0, chain_passes_fits rest p.1)

abbrev pub nodes_pass : (levels : ℕ) → Tree levels → Bool
nodes_pass zero leaf = passed (leaf_tests (leaf_page leaf)) && every (λ (entry : EntryAt). chain_passes entry.records) leaf.entries
nodes_pass (suc levels) node =
    passed (inner_tests (inner_page levels node)) && (nodes_pass levels node.first && every (λ (branch : Branch (Tree levels)). nodes_pass levels branch.child) node.rest)

pub nodes_pass_fit : (levels : ℕ) (tree : Tree levels) → nodes_pass levels tree ≡ true → NodesFit levels tree
nodes_pass_fit zero leaf e =
    let p = and_parts (passed (leaf_tests (leaf_page leaf))) (every (λ (entry : EntryAt). chain_passes entry.records) leaf.entries) e in (
      leaf_passes (leaf_page leaf) p.0,
      every_all (λ (entry : EntryAt). chain_passes entry.records) (λ (entry : EntryAt). ChainFits entry.records) (λ entry h. chain_passes_fits entry.records h) leaf.entries p.1,
    )
nodes_pass_fit (suc levels) node e =
    let children : List (Branch (Tree levels)) → Bool = every (λ (branch : Branch (Tree levels)). nodes_pass levels branch.child) in
    let p = and_parts (passed (inner_tests (inner_page levels node))) (nodes_pass levels node.first && children node.rest) e in
    let q = and_parts (nodes_pass levels node.first) (children node.rest) p.1 in (
      inner_passes (inner_page levels node) p.0,
      nodes_pass_fit levels node.first q.0,
      every_all (λ (branch : Branch (Tree levels)). nodes_pass levels branch.child) (λ (branch : Branch (Tree levels)). NodesFit levels branch.child) (λ branch h. nodes_pass_fit levels branch.child h) node.rest q.1,
    )

-- no number twice
abbrev distinct : List ℕ → Bool
distinct [] = true
distinct (m ∷ ms) = eqb (count m ms) 0 && distinct ms

one_more : (n m : ℕ) (ms : List ℕ) → count m ms ≡ 0 → count n ms ≤ 1 → count n (m ∷ ms) ≤ 1
one_more n m ms none few = go (cases_eq n m)
  where
    go : (n ≡ m) ⊎ (n ≡ m → ⊥) → count n (m ∷ ms) ≤ 1
    go (inl same) = omega (arith, one_same n m same, ap (λ (k : ℕ). count k ms) same)
    go (inr other) = omega (arith, one_other n m other)

distinct_counts : (list : List ℕ) → distinct list ≡ true → (n : ℕ) → count n list ≤ 1
distinct_counts [] e n = omega arith
distinct_counts (m ∷ ms) e n =
    let p = and_parts (eqb (count m ms) 0) (distinct ms) e in
    one_more n m ms (eqb-true (count m ms) 0 p.0) (distinct_counts ms p.1 n)

-- each number below a bound once, and no other
abbrev once_below : (bound : ℕ) → List ℕ → Bool
once_below zero list = true
once_below (suc bound) list = eqb (count bound list) 1 && once_below bound list

once_below_counts : (bound : ℕ) (list : List ℕ) → once_below bound list ≡ true → (n : ℕ) → n < bound → count n list ≡ 1
once_below_counts zero list e n h = absurd (omega arith)
once_below_counts (suc bound) list e n h =
    let p = and_parts (eqb (count bound list) 1) (once_below bound list) e in
    at_most bound list n h (eqb-true (count bound list) 1 p.0) (λ k. once_below_counts bound list p.1 n k)
  where
    at_most : (b : ℕ) (l : List ℕ) (m : ℕ) → m < suc b → count b l ≡ 1 → (m < b → count m l ≡ 1) → count m l ≡ 1
    at_most b l m k last below = go (cases_eq m b)
      where
        go : (m ≡ b) ⊎ (m ≡ b → ⊥) → count m l ≡ 1
        go (inl same) = ap (λ (j : ℕ). count j l) same ∙ last
        go (inr other) = below (omega arith)

none_past : (bound : ℕ) (list : List ℕ) → AllByRecursion (λ m. m < bound) list → (n : ℕ) → bound ≤ n → count n list ≡ 0
none_past bound [] small n h = refl
none_past bound (m ∷ ms) small n h = let ih = none_past bound ms small.1 n h in let here = small.0 in omega (arith, one_other n m (λ e. omega arith))

abbrev pub once_tests : (bound : ℕ) → List ℕ → List Bool
once_tests bound list = once_below bound list ∷ every (λ m. ltb m bound) list ∷ []

pub each_once : (bound : ℕ) (list : List ℕ) → passed (once_tests bound list) ≡ true → (n : ℕ) → count n list ≡ cond (ltb n bound) 1 0
each_once bound list e n = go (cases_lt n bound)
  where
    p : AllByRecursion (λ (test : Bool). test ≡ true) (once_tests bound list)
    p = each (once_tests bound list) e

    small : AllByRecursion (λ m. m < bound) list
    small = every_all (λ m. ltb m bound) (λ m. m < bound) (λ m h. ltb-true m bound h) list p.1.0

    go : (n < bound) ⊎ (bound ≤ n) → count n list ≡ cond (ltb n bound) 1 0
    go (inl below) = once_below_counts bound list p.0 n below ∙ sym (cond-true (ltb n bound) 1 0 (lt-ltb n bound below))
    go (inr past) = none_past bound list small n past ∙ sym (cond-false (ltb n bound) 1 0 (le-ltb n bound past))

-- entries keep their rules
abbrev is_posting : ℕ → Bool
is_posting n = leb 1 n && ltb n (2 ^ 63)

is_posting_number : (n : ℕ) → is_posting n ≡ true → PostingNumber n
is_posting_number n e = let p = and_parts (leb 1 n) (ltb n (2 ^ 63)) e in (leb-true 1 n p.0, ltb-true n (2 ^ 63) p.1)

abbrev record_sized : RecordAt → Bool
record_sized r = leb 1 (length r.postings) && leb (length r.postings) 60

record_is_sized : (r : RecordAt) → record_sized r ≡ true → (1 ≤ length r.postings) × (length r.postings ≤ 60)
record_is_sized r e =
    let p = and_parts (leb 1 (length r.postings)) (leb (length r.postings) 60) e in
    (leb-true 1 (length r.postings) p.0, leb-true (length r.postings) 60 p.1)

abbrev pub keeps_tests : EntryAt → List Bool
keeps_tests entry = leb (length entry.inline) 3 ∷ every record_sized entry.records ∷ leb 1 (length (postings_at entry)) ∷ distinct (postings_at entry) ∷ every is_posting (postings_at entry) ∷ []

entry_keeps : (entry : EntryAt) → passed (keeps_tests entry) ≡ true → EntryFits entry
entry_keeps entry e =
    let p = each (keeps_tests entry) e in
    record {
      at_most_3_inline = leb-true (length entry.inline) 3 p.0;
      records_hold_1_to_60 = every_all record_sized (λ (r : RecordAt). (1 ≤ length r.postings) × (length r.postings ≤ 60)) record_is_sized entry.records p.1.0;
      at_least_one_posting = leb-true 1 (length (postings_at entry)) p.1.1.0;
      no_number_twice = distinct_counts (postings_at entry) p.1.1.1.0;
      are_posting_numbers = every_all is_posting PostingNumber is_posting_number (postings_at entry) p.1.1.1.1.0;
    }

pub entries_keep : (entries : List EntryAt) → every (λ (entry : EntryAt). passed (keeps_tests entry)) entries ≡ true → AllByRecursion EntryFits entries
entries_keep entries e = every_all (λ (entry : EntryAt). passed (keeps_tests entry)) EntryFits entry_keeps entries e
