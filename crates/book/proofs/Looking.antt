-- Lookups and listings: how much they write, and what a listing has of each key.
use Rattle.std.proofs.Common.{◌≡◌, ℕ, ◌-◌, ◌*◌, ◌/◌, min, Bool, true, false, cond, not, ◌&&◌, List, [], ◌∷◌, ◌++◌, length, take, drop, Some, None, filter, Option, sym, refl, ap, ◌∙◌, ⊎_elim, arith}
use Rattle.std.specs.Ordering.{is_eq}
use Rattle.std.specs.List.{flat_map, AllByRecursion}
use Rattle.std.proofs.lemmas.List.{length-take, length-drop, length-append, append-nil}
use Rattle.std.proofs.ByRecursion.{All-append, All-weaker, All-take, All-drop}
use Rattle.refusals.specs.Refusals.{Answer, Accepted, Refused, on_accepted}
use Rattle.numbers.specs.BigEndian.{bytes_of}
use Rattle.numbers.proofs.Spelling.{length_bytes_of}
use Rattle.keys.specs.Kinds.{Kind, Field, below}
use Rattle.keys.proofs.Orders.{above_or_same, below_transitive, below_irreflexive, below_asymmetric}
use Rattle.book.specs.Books.{Held, Book, plain, value_at, postings_of, SortedFrom}
use Rattle.book.specs.Looking.{Listed, rows_under, within, listed, listed_bytes, rows_shown, bounds_answer, buffer_with}
use Rattle.book.specs.LookingLaws.{LookupsFillTheList, ListingsFillTheBuffer, numbers_under, InKeyOrder, ListingsShowTheBook}
use Rattle.book.proofs.Changes.{equal_from, sorted_lower, absent}
use Rattle.book.proofs.Plain.{plain_follows}

pub lookups_fill : LookupsFillTheList
lookups_fill kind book key list = record {
  writes_what_fits = length-take (length list) (postings_of kind book key) ∙ omega arith;
  keeps_the_length = go (kind.lawful key);
}
  where
    ps : List ℕ
    ps = postings_of kind book key

    go : (b : Bool) → length (cond b (take (length list) ps ++ drop (length (take (length list) ps)) list) list) ≡ length list
    go true = simp (length-append, length-drop, length-take) (omega arith)
    go false = refl

abbrev pub LawfulRow : Kind → Listed → Type 0
LawfulRow kind row = kind.lawful row.key ≡ true

pub length_rows : (kind : Kind) (rows : List Listed) → AllByRecursion (LawfulRow kind) rows → length (flat_map listed_bytes rows) ≡ 32 * length rows
length_rows kind [] a = refl
length_rows kind (row ∷ rows) a =
    length-append (listed_bytes row) (flat_map listed_bytes rows)
    ∙ omega (arith, length-append row.key (bytes_of 8 row.posting), kind.fields_have_24_bytes row.key a.0, length_bytes_of 8 row.posting, length_rows kind rows a.1)

lawful_under : (kind : Kind) (key : Field) (ps : List ℕ) → kind.lawful key ≡ true → AllByRecursion (LawfulRow kind) (rows_under (record { key = key; value = ps }))
lawful_under kind key [] l = tt
lawful_under kind key (p ∷ ps) l = (l, lawful_under kind key ps l)

pub lawful_listed : (kind : Kind) (before : Option Field) (book : Book) (test : Held (List ℕ) → Bool) → SortedFrom kind before book → AllByRecursion (LawfulRow kind) (flat_map rows_under (filter test book))
lawful_listed kind before [] test s = tt
lawful_listed kind before (h ∷ rest) test s = go (test h) (lawful_listed kind (Some h.key) rest test s.2)
  where
    go : (b : Bool) → AllByRecursion (LawfulRow kind) (flat_map rows_under (filter test rest)) → AllByRecursion (LawfulRow kind) (flat_map rows_under (cond b (h ∷ filter test rest) (filter test rest)))
    go true ih = All-append (LawfulRow kind) (rows_under h) (flat_map rows_under (filter test rest)) (lawful_under kind h.key h.value s.0) ih
    go false ih = ih

pub listings_fill : ListingsFillTheBuffer
listings_fill kind book first second skip buffer s = record {
  writes_what_fits = fits;
  keeps_the_length = go (bounds_answer kind first second);
}
  where
    all : List Listed
    all = listed kind book first second

    rows : List Listed
    rows = rows_shown kind book first second skip (length buffer)

    fits : length (take (length buffer / 32) (drop skip all)) ≡ min (length all - skip) (length buffer / 32)
    fits = length-take (length buffer / 32) (drop skip all) ∙ omega (arith, length-drop skip all)

    lawful : AllByRecursion (LawfulRow kind) rows
    lawful = All-take (LawfulRow kind) (length buffer / 32) (drop skip all) (All-drop (LawfulRow kind) skip all (lawful_listed kind None book (λ (h : Held (List ℕ)). within kind first second h.key) s))

    go : (a : Answer Unit) → length (on_accepted a (buffer_with rows buffer) buffer) ≡ length buffer
    go (Accepted met) = length-append (flat_map listed_bytes rows) (drop (32 * length rows) buffer) ∙ omega (arith, length_rows kind rows lawful, length-drop (32 * length rows) buffer, fits)
    go (Refused number place) = refl

-- the rows of one key
under_same : (kind : Kind) (key : Field) (k : Field) (ps : List ℕ) (rest : List Listed) → is_eq (kind.order key k) ≡ true → numbers_under kind key (rows_under (record { key = k; value = ps }) ++ rest) ≡ ps ++ numbers_under kind key rest
under_same kind key k [] rest e = refl
under_same kind key k (p ∷ ps) rest e = rw e (ap (λ (ns : List ℕ). p ∷ ns) (under_same kind key k ps rest e))

under_other : (kind : Kind) (key : Field) (k : Field) (ps : List ℕ) (rest : List Listed) → is_eq (kind.order key k) ≡ false → numbers_under kind key (rows_under (record { key = k; value = ps }) ++ rest) ≡ numbers_under kind key rest
under_other kind key k [] rest e = refl
under_other kind key k (p ∷ ps) rest e = rw e (under_other kind key k ps rest e)

module _ (kind : Kind) (first second : Field) where
  shows : (before : Option Field) (book : Book) (key : Field) → SortedFrom kind before book → kind.lawful key ≡ true
      → numbers_under kind key (flat_map rows_under (filter (λ (h : Held (List ℕ)). within kind first second h.key) book)) ≡ cond (within kind first second key) (value_at kind plain key book) []
  shows before [] key s lk = go (within kind first second key)
    where
      go : (b : Bool) → ◌≡◌ {A = List ℕ} [] (cond b [] [])
      go true = refl
      go false = refl
  shows before (h ∷ rest) key s lk = cases (is_eq (kind.order key h.key)) refl (shows (Some h.key) rest key s.2 lk)
    where
      left : List Listed
      left = flat_map rows_under (filter (λ (x : Held (List ℕ)). within kind first second x.key) rest)

      -- the key itself
      same : (b : Bool) → is_eq (kind.order key h.key) ≡ true → numbers_under kind key left ≡ [] → numbers_under kind key (flat_map rows_under (cond b (h ∷ filter (λ (x : Held (List ℕ)). within kind first second x.key) rest) (filter (λ (x : Held (List ℕ)). within kind first second x.key) rest))) ≡ cond b h.value []
      same true e none = under_same kind key h.key h.value left e ∙ (ap (λ (ns : List ℕ). h.value ++ ns) none ∙ append-nil h.value)
      same false e none = none

      other : (b : Bool) → is_eq (kind.order key h.key) ≡ false → numbers_under kind key (flat_map rows_under (cond b (h ∷ filter (λ (x : Held (List ℕ)). within kind first second x.key) rest) (filter (λ (x : Held (List ℕ)). within kind first second x.key) rest))) ≡ numbers_under kind key left
      other true e = under_other kind key h.key h.value left e
      other false e = refl

      cases : (t : Bool) → is_eq (kind.order key h.key) ≡ t → numbers_under kind key left ≡ cond (within kind first second key) (value_at kind plain key rest) []
          → numbers_under kind key (flat_map rows_under (cond (within kind first second h.key) (h ∷ filter (λ (x : Held (List ℕ)). within kind first second x.key) rest) (filter (λ (x : Held (List ℕ)). within kind first second x.key) rest))) ≡ cond (within kind first second key) (cond t h.value (value_at kind plain key rest)) []
      cases true t ih =
          let eq : key ≡ h.key = equal_from kind key h.key lk s.0 t in
          let gone : value_at kind plain key rest ≡ [] = absent kind plain plain_follows.clear key rest lk (rw eq s.2) in
          let nothing : (b : Bool) → cond b (value_at kind plain key rest) [] ≡ [] = elim [ true ↦ gone | false ↦ refl ] in
          same (within kind first second h.key) t (ih ∙ nothing (within kind first second key)) ∙ ap (λ (k : Field). cond (within kind first second k) h.value []) (sym eq)
      cases false t ih = other (within kind first second h.key) t ∙ ih

abbrev RowAbove : Kind → Field → Listed → Type 0
RowAbove kind low row = (kind.lawful row.key ≡ true) × (below kind low row.key ≡ true)

above_under : (kind : Kind) (low key : Field) (ps : List ℕ) → kind.lawful key ≡ true → below kind low key ≡ true → AllByRecursion (RowAbove kind low) (rows_under (record { key = key; value = ps }))
above_under kind low key [] lk h = tt
above_under kind low key (p ∷ ps) lk h = ((lk, h), above_under kind low key ps lk h)

above_listed : (kind : Kind) (low : Field) (book : Book) (test : Held (List ℕ) → Bool) → kind.lawful low ≡ true → SortedFrom kind (Some low) book → AllByRecursion (RowAbove kind low) (flat_map rows_under (filter test book))
above_listed kind low [] test ll s = tt
above_listed kind low (h ∷ rest) test ll s = go (test h) (above_listed kind low rest test ll (sorted_lower kind plain plain_follows.clear (Some low) h.key rest ll s.0 s.1 s.2))
  where
    go : (b : Bool) → AllByRecursion (RowAbove kind low) (flat_map rows_under (filter test rest)) → AllByRecursion (RowAbove kind low) (flat_map rows_under (cond b (h ∷ filter test rest) (filter test rest)))
    go true ih = All-append (RowAbove kind low) (rows_under h) (flat_map rows_under (filter test rest)) (above_under kind low h.key h.value s.0 s.1) ih
    go false ih = ih

not_below_under : (kind : Kind) (key : Field) (ps : List ℕ) → kind.lawful key ≡ true → AllByRecursion (λ (later : Listed). below kind later.key key ≡ false) (rows_under (record { key = key; value = ps }))
not_below_under kind key [] lk = tt
not_below_under kind key (p ∷ ps) lk = (below_irreflexive kind key lk, not_below_under kind key ps lk)

ordered_under : (kind : Kind) (key : Field) (ps : List ℕ) (later : List Listed) → kind.lawful key ≡ true → AllByRecursion (RowAbove kind key) later → InKeyOrder kind later → InKeyOrder kind (rows_under (record { key = key; value = ps }) ++ later)
ordered_under kind key [] later lk a o = o
ordered_under kind key (p ∷ ps) later lk a o = (
  All-append (λ (row : Listed). below kind row.key key ≡ false) (rows_under (record { key = key; value = ps })) later (not_below_under kind key ps lk)
      (All-weaker (RowAbove kind key) (λ (row : Listed). below kind row.key key ≡ false) (λ row h. below_asymmetric kind key row.key lk h.0 h.1) later a),
  ordered_under kind key ps later lk a o,
)

ordered : (kind : Kind) (before : Option Field) (book : Book) (test : Held (List ℕ) → Bool) → SortedFrom kind before book → InKeyOrder kind (flat_map rows_under (filter test book))
ordered kind before [] test s = tt
ordered kind before (h ∷ rest) test s = go (test h) (ordered kind (Some h.key) rest test s.2)
  where
    go : (b : Bool) → InKeyOrder kind (flat_map rows_under (filter test rest)) → InKeyOrder kind (flat_map rows_under (cond b (h ∷ filter test rest) (filter test rest)))
    go true ih = ordered_under kind h.key h.value (flat_map rows_under (filter test rest)) s.0 (above_listed kind h.key rest test s.0 s.2) ih
    go false ih = ih

-- from a first key above the second on, no key is within
backwards : (kind : Kind) (first second key : Field) → kind.lawful first ≡ true → kind.lawful second ≡ true → kind.lawful key ≡ true → below kind second first ≡ true → within kind first second key ≡ false
backwards kind first second key lf ls lk h = go (below kind key first) refl
  where
    go : (b : Bool) → below kind key first ≡ b → (not b && not (below kind second key)) ≡ false
    go true e = refl
    go false e = ap not (⊎_elim (λ (same : key ≡ first). rw same h) (λ up. below_transitive kind second first key ls lf lk h up) (above_or_same kind key first lk lf e))

none_kept : (kind : Kind) (before : Option Field) (first second : Field) (book : Book) → kind.lawful first ≡ true → kind.lawful second ≡ true → below kind second first ≡ true → SortedFrom kind before book → listed kind book first second ≡ []
none_kept kind before first second [] lf ls h s = refl
none_kept kind before first second (x ∷ rest) lf ls h s = rw (backwards kind first second x.key lf ls s.0 h) (none_kept kind (Some x.key) first second rest lf ls h s.2)

pub listings_show : ListingsShowTheBook
listings_show kind book first second s lf ls = record {
  each_key_as_in_the_book = λ key lk. shows kind first second None book key s lk;
  in_key_order = ordered kind None book (λ (h : Held (List ℕ)). within kind first second h.key) s;
  nothing_backwards = λ h. none_kept kind None first second book lf ls h s;
}
