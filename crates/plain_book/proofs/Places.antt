-- Places of keys among sorted entries, and what stands there and changes there.
use Rattle.std.proofs.Common.{◌≡◌, ℕ, zero, suc, ◌<◌, ◌≤◌, Bool, true, false, cond, ◌&&◌, ◌⊎◌, List, [], ◌∷◌, ◌++◌, length, get_or, take, drop, Some, None, OnOk, OnErr, Ok, Err, vec_items, Option, Result, Ordering, Less, Equal, Greater, sym, refl, ap, ◌∙◌, subst, inl, inr, arith}
use Rattle.std.specs.Ordering.{is_eq}
use Rattle.std.specs.List.{remove, insert}
use Rattle.std.specs.List.Sorted.{IsPartitionedBy, IsPartitionPoint}
use Rattle.std.proofs.lemmas.Bool.{true≢false, cases_eq}
use Rattle.std.proofs.lemmas.List.{take_at, drop_at, length-take-le, length-map, take-map, drop-map, get_or-map, map-append}
use Rattle.keys.specs.Kinds.{Kind, Field, below}
use Rattle.keys.proofs.Orders.{less_from_below, greater_from_below, below_transitive, trichotomy, order_same}
use Rattle.book.specs.Books.{Held, by_order, value_at, put, changed, SortedFrom, Sorted}
use Rattle.book.specs.Entries.{Entry, Entries, is_empty, paged}
use Rattle.book.proofs.Changes.{sorted_lower, changed_sorted}
use Rattle.book.proofs.Paged.{paged_clear}
use Rattle.plain_book.specs.declared.account.Account.{Account}
use Rattle.plain_book.specs.Accounts.{entry_in, held_in, entries_of}
use Rattle.plain_book.specs.Places.{lower, no_held, key_at, StandsAt, GapAt}

pub held_at : (accounts : List Account) (i : ℕ) (a : Account) → i < length accounts → a ≡ get_or accounts i a → get_or (entries_of accounts) i no_held ≡ held_in a
held_at accounts i a h e = get_or-map held_in accounts i a no_held h ∙ ap held_in (sym e)

-- the test of a search among accounts
abbrev pub is_lower : Kind → Field → Account → Bool
is_lower kind key a = lower kind (vec_items a.key) key

module _ (kind : Kind) where
  -- each key of a sorted list is lawful, and below those after it
  pub lawful_at : (before : Option Field) (list : Entries) (i : ℕ) → SortedFrom kind before list → i < length list → kind.lawful (key_at list i) ≡ true
  lawful_at before [] i s h = absurd (omega arith)
  lawful_at before (x ∷ list) zero s h = s.0
  lawful_at before (x ∷ list) (suc i) s h = lawful_at (Some x.key) list i s.2 (omega arith)

  above_at : (b : Field) (list : Entries) (i : ℕ) → kind.lawful b ≡ true → SortedFrom kind (Some b) list → i < length list → below kind b (key_at list i) ≡ true
  above_at b [] i lb s h = absurd (omega arith)
  above_at b (x ∷ list) zero lb s h = s.1
  above_at b (x ∷ list) (suc i) lb s h = above_at b list i lb (sorted_lower kind paged paged_clear (Some b) x.key list lb s.0 s.1 s.2) (omega arith)

  rises_at : (before : Option Field) (list : Entries) (i j : ℕ) → SortedFrom kind before list → i < j → j < length list → below kind (key_at list i) (key_at list j) ≡ true
  rises_at before [] i j s h g = absurd (omega arith)
  rises_at before (x ∷ list) i zero s h g = absurd (omega arith)
  rises_at before (x ∷ list) zero (suc j) s h g = above_at x.key list j s.0 s.2 (omega arith)
  rises_at before (x ∷ list) (suc i) (suc j) s h g = rises_at (Some x.key) list i j s.2 (omega arith) (omega arith)

  module _ (key : Field) (lk : kind.lawful key ≡ true) where
    lower_from : (a : Field) → kind.lawful a ≡ true → below kind a key ≡ true → lower kind a key ≡ true
    lower_from a la e = rw (la, lk, e)

    below_from : (a : Field) → lower kind a key ≡ true → below kind a key ≡ true
    below_from a e = go (kind.lawful a) (kind.lawful key) (below kind a key) e
      where
        go : (p q r : Bool) → ((p && q) && r) ≡ true → r ≡ true
        go true true true e = refl
        go true true false e = e
        go true false r e = absurd (true≢false (sym e))
        go false q r e = absurd (true≢false (sym e))

    -- what a search of the accounts by the test `lower` comes to
    module _ (accounts : List Account) (s : Sorted kind (entries_of accounts)) where
      abbrev test : Account → Bool
      test = is_lower kind key

      abbrev list : Entries
      list = entries_of accounts

      key_is : (i : ℕ) (d : Account) → i < length accounts → key_at list i ≡ vec_items (get_or accounts i d).key
      key_is i d h = ap (λ (x : Held Entry). x.key) (get_or-map held_in accounts i d no_held h)

      long : length list ≡ length accounts
      long = length-map accounts held_in

      parted : IsPartitionedBy (is_lower kind key) accounts
      parted i j d h g e = go (cases_eq i j)
        where
          go : (i ≡ j) ⊎ (i ≡ j → ⊥) → test (get_or accounts i d) ≡ true
          go (inl same) = rw same e
          go (inr other) =
              let la : kind.lawful (key_at list i) ≡ true = lawful_at None list i s (omega (arith, long)) in
              let lb : kind.lawful (key_at list j) ≡ true = lawful_at None list j s (omega (arith, long)) in
              let up : below kind (key_at list i) (key_at list j) ≡ true = rises_at None list i j s (omega arith) (omega (arith, long)) in
              let under : below kind (key_at list j) key ≡ true = rw (key_is j d g) (below_from (vec_items (get_or accounts j d).key) e) in
              rw (← key_is i d (omega arith)) (lower_from (key_at list i) la (below_transitive kind (key_at list i) (key_at list j) key la lb lk up under))

      module _ (at : ℕ) (within : at ≤ length accounts) (d : Account) (point : IsPartitionPoint (λ a. is_lower kind key a ≡ true) (λ a. is_lower kind key a ≡ false) accounts at) where
        under : (j : ℕ) → j < at → below kind (key_at list j) key ≡ true
        under j h = rw (key_is j d (omega arith)) (below_from (vec_items (get_or accounts j d).key) (point.0 j d (omega arith) h))

        stands_at : at < length accounts → vec_items (get_or accounts at d).key ≡ key → StandsAt kind key list at
        stands_at h e = record { in_range = omega (arith, long); has_key = key_is at d h ∙ e; lower_before = under }

        not_under : (j : ℕ) → at ≤ j → j < length list → below kind (key_at list j) key ≡ true → ⊥
        not_under j h g e =
            let la : kind.lawful (key_at list j) ≡ true = lawful_at None list j s g in
            let no : lower kind (key_at list j) key ≡ false = rw (key_is j d (omega (arith, long))) (point.1 j d h (omega (arith, long))) in
            true≢false (sym (lower_from (key_at list j) la e) ∙ no)

        gap_at : (at < length accounts → vec_items (get_or accounts at d).key ≡ key → ⊥) → GapAt kind key list at
        gap_at other = record { in_range = omega (arith, long); lower_before = under; higher_after = higher }
          where
            not_same : (j : ℕ) → at ≤ j → j < length list → key_at list j ≡ key → ⊥
            not_same j h g e = go (cases_eq at j)
              where
                go : (at ≡ j) ⊎ (at ≡ j → ⊥) → ⊥
                go (inl same) = other (omega (arith, long)) (sym (key_is at d (omega (arith, long))) ∙ (ap (key_at list) same ∙ e))
                go (inr apart) = not_under at (omega arith) (omega arith) (subst (λ (k : Field). below kind (key_at list at) k ≡ true) e (rises_at None list at j s (omega arith) g))

            higher : (j : ℕ) → at ≤ j → j < length list → below kind key (key_at list j) ≡ true
            higher j h g = go (trichotomy kind key (key_at list j) lk (lawful_at None list j s g))
              where
                go : (below kind key (key_at list j) ≡ true) ⊎ ((key ≡ key_at list j) ⊎ (below kind (key_at list j) key ≡ true)) → below kind key (key_at list j) ≡ true
                go (inl e) = e
                go (inr (inl e)) = absurd (not_same j h g (sym e))
                go (inr (inr e)) = absurd (not_under j h g e)

    stands_tail : (x : Held Entry) (list : Entries) (i : ℕ) → StandsAt kind key (x ∷ list) (suc i) → StandsAt kind key list i
    stands_tail x list i t = record { in_range = omega (arith, t.in_range); has_key = t.has_key; lower_before = λ j h. t.lower_before (suc j) (omega arith) }

    gap_tail : (x : Held Entry) (list : Entries) (i : ℕ) → GapAt kind key (x ∷ list) (suc i) → GapAt kind key list i
    gap_tail x list i t = record { in_range = omega (arith, t.in_range); lower_before = λ j h. t.lower_before (suc j) (omega arith); higher_after = λ j h g. t.higher_after (suc j) (omega arith) (omega arith) }

    gap_front : (x : Held Entry) (list : Entries) → GapAt kind key (x ∷ list) 0 → GapAt kind key list 0
    gap_front x list t = record { in_range = omega arith; lower_before = λ j h. absurd (omega arith); higher_after = λ j h g. t.higher_after (suc j) (omega arith) (omega arith) }

    -- what stands under the key
    pub value_there : (before : Option Field) (list : Entries) (at : ℕ) → SortedFrom kind before list → StandsAt kind key list at → value_at kind paged key list ≡ (get_or list at no_held).value
    value_there before [] at s t = absurd (omega (arith, t.in_range))
    value_there before (x ∷ list) zero s t = ap (λ (o : Ordering). cond (is_eq o) x.value (value_at kind paged key list)) (order_same kind key x.key lk (sym t.has_key))
    value_there before (x ∷ list) (suc i) s t =
        ap (λ (o : Ordering). cond (is_eq o) x.value (value_at kind paged key list)) (greater_from_below kind key x.key lk s.0 (t.lower_before 0 (omega arith)))
        ∙ value_there (Some x.key) list i s.2 (stands_tail x list i t)

    pub value_absent : (before : Option Field) (list : Entries) (at : ℕ) → SortedFrom kind before list → GapAt kind key list at → value_at kind paged key list ≡ paged.none
    value_absent before [] at s t = refl
    value_absent before (x ∷ list) zero s t =
        ap (λ (o : Ordering). cond (is_eq o) x.value (value_at kind paged key list)) (less_from_below kind key x.key (t.higher_after 0 (omega arith) (omega arith)))
        ∙ value_absent (Some x.key) list 0 s.2 (gap_front x list t)
    value_absent before (x ∷ list) (suc i) s t =
        ap (λ (o : Ordering). cond (is_eq o) x.value (value_at kind paged key list)) (greater_from_below kind key x.key lk s.0 (t.lower_before 0 (omega arith)))
        ∙ value_absent (Some x.key) list i s.2 (gap_tail x list i t)

    -- what a change under the key makes of the list
    module _ (f : Entry → Entry) where
      chosen : (o : Ordering) (x : Held Entry) (list : Entries) → kind.order key x.key ≡ o
          → changed kind paged key f (x ∷ list) ≡ by_order o (put paged key (f paged.none) (x ∷ list)) (put paged key (f x.value) list) (x ∷ changed kind paged key f list)
      chosen o x list e = ap (λ (p : Ordering). by_order p (put paged key (f paged.none) (x ∷ list)) (put paged key (f x.value) list) (x ∷ changed kind paged key f list)) e

      pub changed_there : (before : Option Field) (list : Entries) (at : ℕ) → SortedFrom kind before list → StandsAt kind key list at → changed kind paged key f list ≡ take at list ++ put paged key (f (get_or list at no_held).value) (drop (suc at) list)
      changed_there before [] at s t = absurd (omega (arith, t.in_range))
      changed_there before (x ∷ list) zero s t = chosen Equal x list (order_same kind key x.key lk (sym t.has_key))
      changed_there before (x ∷ list) (suc i) s t =
          chosen Greater x list (greater_from_below kind key x.key lk s.0 (t.lower_before 0 (omega arith)))
          ∙ ap (λ (l : Entries). x ∷ l) (changed_there (Some x.key) list i s.2 (stands_tail x list i t))

      pub changed_gap : (before : Option Field) (list : Entries) (at : ℕ) → SortedFrom kind before list → GapAt kind key list at → changed kind paged key f list ≡ take at list ++ put paged key (f paged.none) (drop at list)
      changed_gap before [] zero s t = refl
      changed_gap before [] (suc i) s t = refl
      changed_gap before (x ∷ list) zero s t = chosen Less x list (less_from_below kind key x.key (t.higher_after 0 (omega arith) (omega arith)))
      changed_gap before (x ∷ list) (suc i) s t =
          chosen Greater x list (greater_from_below kind key x.key lk s.0 (t.lower_before 0 (omega arith)))
          ∙ ap (λ (l : Entries). x ∷ l) (changed_gap (Some x.key) list i s.2 (gap_tail x list i t))

      pub still_sorted : (list : Entries) → Sorted kind list → Sorted kind (changed kind paged key f list)
      still_sorted list s = changed_sorted kind paged paged_clear None key f list tt lk refl s

    -- an account lifted out
    pub lifted : (list : Entries) (at : ℕ) → Sorted kind list → StandsAt kind key list at → Sorted kind (remove list at)
    lifted list at s t = subst (Sorted kind) (changed_there (λ _. paged.none) None list at s t) (still_sorted (λ _. paged.none) list s)

gap_past : (kind : Kind) (key : Field) (lk : kind.lawful key ≡ true) (accounts : List Account) (s : Sorted kind (entries_of accounts)) (at : ℕ) → at ≤ length accounts → IsPartitionPoint (λ a. is_lower kind key a ≡ true) (λ a. is_lower kind key a ≡ false) accounts at → length accounts ≤ at
    → GapAt kind key (entries_of accounts) at
gap_past kind key lk [] s at within point past = record { in_range = within; lower_before = λ j h. absurd (omega arith); higher_after = λ j h g. absurd (omega arith) }
gap_past kind key lk (a ∷ rest) s at within point past = gap_at kind key lk (a ∷ rest) s at within a point (λ h e. omega arith)

-- what a search of the accounts of a book finds
module _ (kind : Kind) (key : Field) (lk : kind.lawful key ≡ true) (seen accounts : List Account) (same : seen ≡ accounts) (sorted : Sorted kind (entries_of accounts)) (at : ℕ) (within : at ≤ length seen)
    (search_ends : IsPartitionedBy (is_lower kind key) seen → IsPartitionPoint (λ a. is_lower kind key a ≡ true) (λ a. is_lower kind key a ≡ false) seen at) where
  sorted_seen : Sorted kind (entries_of seen)
  sorted_seen = subst (λ (xs : List Account). Sorted kind (entries_of xs)) (sym same) sorted

  point : IsPartitionPoint (λ a. is_lower kind key a ≡ true) (λ a. is_lower kind key a ≡ false) seen at
  point = search_ends (parted kind key lk seen sorted_seen)

  pub found_standing : (a : Account) → at < length seen → a ≡ get_or seen at a → vec_items a.key ≡ key → StandsAt kind key (entries_of accounts) at
  found_standing a h is e = subst (λ (xs : List Account). StandsAt kind key (entries_of xs) at) same (stands_at kind key lk seen sorted_seen at within a point h (ap (λ (x : Account). vec_items x.key) (sym is) ∙ e))

  pub found_other : (a : Account) → a ≡ get_or seen at a → (vec_items a.key ≡ key → ⊥) → GapAt kind key (entries_of accounts) at
  found_other a is other = subst (λ (xs : List Account). GapAt kind key (entries_of xs) at) same (gap_at kind key lk seen sorted_seen at within a point (λ h e. other (ap (λ (x : Account). vec_items x.key) is ∙ e)))

  pub found_past : length seen ≤ at → GapAt kind key (entries_of accounts) at
  found_past past = subst (λ (xs : List Account). GapAt kind key (entries_of xs) at) same (gap_past kind key lk seen sorted_seen at within point past)

pub entries_removed : (accounts : List Account) (at : ℕ) → entries_of (remove accounts at) ≡ remove (entries_of accounts) at
entries_removed accounts at = map-append held_in (take at accounts) (drop (suc at) accounts) ∙ rw (take-map held_in at accounts, drop-map held_in (suc at) accounts)

pub put_some : (accounts after : List Account) (at : ℕ) (a : Account) → is_empty (entry_in a) ≡ false → after ≡ insert accounts at a → entries_of after ≡ take at (entries_of accounts) ++ put paged (vec_items a.key) (entry_in a) (drop at (entries_of accounts))
put_some accounts after at a some e = rw (some, e) (map-append held_in (take at accounts) (a ∷ drop at accounts) ∙ rw (take-map held_in at accounts, drop-map held_in at accounts))

-- an account lifted out, changed and put back at its place, or a new one put in a gap
module _ (kind : Kind) (key : Field) (lk : kind.lawful key ≡ true) (accounts : List Account) (sorted : Sorted kind (entries_of accounts)) (at : ℕ) where
  abbrev kept : Entries
  kept = entries_of accounts

  module _ (stands : StandsAt kind key kept at) (after : List Account) (removed : after ≡ remove accounts at) where
    lifted_is : entries_of after ≡ remove kept at
    lifted_is = ap entries_of removed ∙ entries_removed accounts at

    pub lifted_sorted : Sorted kind (entries_of after)
    lifted_sorted = subst (Sorted kind) (sym lifted_is) (lifted kind key lk kept at sorted stands)

    pub changed_lifted : (f : Entry → Entry) (old new : Account) → old ≡ get_or accounts at old → held_in new ≡ record { key = vec_items old.key; value = f (entry_in old) }
        → take at (entries_of after) ++ put paged (vec_items new.key) (entry_in new) (drop at (entries_of after)) ≡ changed kind paged key f kept
    changed_lifted f old new o n =
        let within : at < length accounts = omega (arith, stands.in_range, length-map accounts held_in) in
        let held : get_or kept at no_held ≡ held_in old = held_at accounts at old within o in
        let named : vec_items old.key ≡ key = sym (ap (λ (h : Held Entry). h.key) held) ∙ stands.has_key in
        let is : held_in new ≡ record { key = key; value = f (get_or kept at no_held).value } = n ∙ (ap (λ (k : Field). record { key = k; value = f (entry_in old) }) named ∙ ap (λ (h : Held Entry). record { key = key; value = f h.value }) (sym held)) in
        let long : length (take at kept) ≡ at = length-take-le at kept (omega (arith, stands.in_range)) in
        let front : take at (entries_of after) ≡ take at kept = ap (take at) lifted_is ∙ take_at (take at kept) (drop (suc at) kept) at long in
        let back : drop at (entries_of after) ≡ drop (suc at) kept = ap (drop at) lifted_is ∙ drop_at (take at kept) (drop (suc at) kept) at long in
        ap (λ (l : Entries). l ++ put paged (vec_items new.key) (entry_in new) (drop at (entries_of after))) front
        ∙ (ap (λ (l : Entries). take at kept ++ put paged (vec_items new.key) (entry_in new) l) back
        ∙ (ap (λ (h : Held Entry). take at kept ++ put paged h.key h.value (drop (suc at) kept)) is ∙ sym (changed_there kind key lk f None kept at sorted stands)))

  pub changed_new : (f : Entry → Entry) (old new : Account) → GapAt kind key kept at → held_in old ≡ record { key = key; value = paged.none } → held_in new ≡ record { key = vec_items old.key; value = f (entry_in old) }
      → take at kept ++ put paged (vec_items new.key) (entry_in new) (drop at kept) ≡ changed kind paged key f kept
  changed_new f old new gap o n =
      ap (λ (h : Held Entry). take at kept ++ put paged h.key h.value (drop at kept)) (n ∙ ap (λ (h : Held Entry). record { key = h.key; value = f h.value }) o)
      ∙ sym (changed_gap kind key lk f None kept at sorted gap)

  pub changed_sorted_here : (f : Entry → Entry) (entries : Entries) → entries ≡ changed kind paged key f kept → Sorted kind entries
  changed_sorted_here f entries e = subst (Sorted kind) (sym e) (still_sorted kind key lk f kept sorted)

-- what holds whether a call gave a value or failed
pub either_way : {A E P Q R : Type 0} (r : Result A E) → OnOk r P → OnErr r Q → (P → R) → (Q → R) → R
either_way (Ok value) p q f g = f p
either_way (Err error) p q f g = g q

pub on_any_ok : {A E P : Type 0} (r : Result A E) → P → OnOk r P
on_any_ok (Ok value) p = p
on_any_ok (Err error) p = tt
