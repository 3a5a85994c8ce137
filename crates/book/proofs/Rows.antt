-- A row is one change under its key; a batch of postings on the empty book gives its rows.
use Rattle.std.proofs.Common.{◌≡◌, ℕ, suc, ◌+◌, ◌<◌, Bool, true, false, cond, List, [], ◌∷◌, ◌++◌, map, length, Some, None, Option, Ordering, Less, Equal, Greater, sym, refl, ap, ◌∙◌, subst, arith}
use mathlib.Core.List.{reverse_aux}
use Rattle.std.specs.Ordering.{is_lt}
use Rattle.std.specs.List.{AllByRecursion}
use Rattle.std.proofs.ByRecursion.{All-push, All-weaker}
use Rattle.std.proofs.lemmas.List.{append_assoc, append-nil, length-map}
use Rattle.refusals.specs.Refusals.{Answer, Accepted, Refused, wants, and_then}
use Rattle.keys.specs.Kinds.{Kind, Field, below}
use Rattle.keys.proofs.Orders.{order_self, same_from_order, less_from_below, greater_from_below, below_transitive}
use Rattle.batches.specs.declared.line.Sign.{Sign}
use Rattle.batches.specs.declared.line.Sign.TheVariants.{Posting, Cancelling}
use Rattle.batches.specs.declared.line.Line.{Line}
use Rattle.batches.specs.Layout.{Row}
use Rattle.batches.specs.KeyCheck.{above, kind_and_keys_answer}
use Rattle.book.specs.Books.{Held, Keeping, Book, plain, by_order, put, changed, SortedFrom, Sorted}
use Rattle.book.specs.Merging.{Booking, bookings_of, lines_under, standing, applied, line_taken, lines_answer, lines_taken, is_posting, posting_lines, pages_answer, check_answer}
use Rattle.book.specs.Laws.{all_applied, ARowIsOneChange, no_cancelling, as_held, MergedIntoTheEmptyBook}
use Rattle.book.proofs.Changes.{changed_sorted}
use Rattle.book.proofs.Bookings.{KeysRise, accepted_keys}
use Rattle.book.proofs.Taking.{Follows, then_assoc}
use Rattle.book.proofs.Plain.{plain_follows}
use Rattle.book.proofs.Merges.{checked_before}

module _ {V : Type 0} (kind : Kind) (keeping : Keeping V) (clear : (v : V) → keeping.is_none v ≡ true → v ≡ keeping.none) where
  -- a key below all others goes in front
  changed_front : (key : Field) (f : V → V) (rest : List (Held V)) → SortedFrom kind (Some key) rest → changed kind keeping key f rest ≡ put keeping key (f keeping.none) rest
  changed_front key f [] s = refl
  changed_front key f (h ∷ rest) s = rw (less_from_below kind key h.key s.1)

  put_changed : (key : Field) (v : V) (g : V → V) (rest : List (Held V)) → kind.lawful key ≡ true → SortedFrom kind (Some key) rest → changed kind keeping key g (put keeping key v rest) ≡ put keeping key (g v) rest
  put_changed key v g rest lk s = go (keeping.is_none v) refl
    where
      go : (b : Bool) → keeping.is_none v ≡ b → changed kind keeping key g (cond b rest (record { key = key; value = v } ∷ rest)) ≡ put keeping key (g v) rest
      go true e = rw (clear v e) (changed_front key g rest s)
      go false e = rw (order_self kind key lk)

  -- two changes under one key are one
  pub changed_twice : (before : Option Field) (key : Field) (f g : V → V) (list : List (Held V)) → kind.lawful key ≡ true → SortedFrom kind before list
      → changed kind keeping key g (changed kind keeping key f list) ≡ changed kind keeping key (λ (v : V). g (f v)) list
  changed_twice before key f g [] lk s = put_changed key (f keeping.none) g [] lk tt
  changed_twice before key f g (h ∷ rest) lk s = go (kind.order key h.key) refl (changed_twice (Some h.key) key f g rest lk s.2)
    where
      go : (o : Ordering) → kind.order key h.key ≡ o → changed kind keeping key g (changed kind keeping key f rest) ≡ changed kind keeping key (λ (v : V). g (f v)) rest
          → changed kind keeping key g (by_order o (put keeping key (f keeping.none) (h ∷ rest)) (put keeping key (f h.value) rest) (h ∷ changed kind keeping key f rest))
          ≡ by_order o (put keeping key (g (f keeping.none)) (h ∷ rest)) (put keeping key (g (f h.value)) rest) (h ∷ changed kind keeping key (λ (v : V). g (f v)) rest)
      go Less e ih = put_changed key (f keeping.none) g (h ∷ rest) lk (s.0, ap is_lt e, s.2)
      go Equal e ih = put_changed key (f h.value) g rest lk (rw (same_from_order kind key h.key lk s.0 e) s.2)
      go Greater e ih = rw e (ap (λ (l : List (Held V)). h ∷ l) ih)

  one_change : (key : Field) (line : Line) (lines : List Line) (list : List (Held V)) → kind.lawful key ≡ true → Sorted kind list
      → lines_taken kind keeping (bookings_of (record { key = key; lines = line ∷ lines })) list ≡ changed kind keeping key (all_applied keeping (line ∷ lines)) list
  one_change key line lines list lk s = go lines (applied keeping line.sign line.number)
    where
      go : (ls : List Line) (f : V → V) → lines_taken kind keeping (bookings_of (record { key = key; lines = ls })) (changed kind keeping key f list) ≡ changed kind keeping key (λ (v : V). all_applied keeping ls (f v)) list
      go [] f = refl
      go (l ∷ ls) f =
          ap (λ (x : List (Held V)). lines_taken kind keeping (bookings_of (record { key = key; lines = ls })) x) (changed_twice None key f (applied keeping l.sign l.number) list lk s)
          ∙ go ls (λ (v : V). applied keeping l.sign l.number (f v))

  -- a key above all others goes to the end
  changed_end : (key : Field) (f : V → V) (list : List (Held V)) → kind.lawful key ≡ true → AllByRecursion (λ (h : Held V). (kind.lawful h.key ≡ true) × (below kind h.key key ≡ true)) list
      → changed kind keeping key f list ≡ list ++ put keeping key (f keeping.none) []
  changed_end key f [] lk a = refl
  changed_end key f (h ∷ rest) lk a = rw (greater_from_below kind key h.key lk a.0.0 a.0.1) (ap (λ (l : List (Held V)). h ∷ l) (changed_end key f rest lk a.1))

pub row_is_one_change : {V : Type 0} (keeping : Keeping V) → Follows keeping → ARowIsOneChange keeping
row_is_one_change {V} keeping follows kind row list lk some s = go row.lines some
  where
    go : (ls : List Line) → 0 < length ls → lines_taken kind keeping (bookings_of (record { key = row.key; lines = ls })) list ≡ changed kind keeping row.key (all_applied keeping ls) list
    go [] some = absurd (omega arith)
    go (l ∷ ls) some = one_change kind keeping follows.clear row.key l ls list lk s

-- on the empty book a line fits if it posts
empty_answers : (kind : Kind) (at : ℕ) (bs : List Booking) → lines_answer kind plain at bs [] ≡ no_cancelling at bs
empty_answers kind at [] = refl
empty_answers kind at (b ∷ bs) = go b.sign (empty_answers kind (suc at) bs)
  where
    go : (sign : Sign) → lines_answer kind plain (suc at) bs [] ≡ no_cancelling (suc at) bs → and_then (standing sign false at) (lines_answer kind plain (suc at) bs []) ≡ and_then (wants (is_posting sign) 7 at) (no_cancelling (suc at) bs)
    go Posting ih = ih
    go Cancelling ih = refl

abbrev Posts : Booking → Type 0
Posts b = b.sign ≡ Posting

all_post : (at : ℕ) (bs : List Booking) → no_cancelling at bs ≡ Accepted tt → AllByRecursion Posts bs
all_post at [] e = tt
all_post at (b ∷ bs) e = go b.sign refl e (λ g. all_post (suc at) bs g)
  where
    go : (sign : Sign) → b.sign ≡ sign → and_then (wants (is_posting sign) 7 at) (no_cancelling (suc at) bs) ≡ Accepted tt → (no_cancelling (suc at) bs ≡ Accepted tt → AllByRecursion Posts bs) → AllByRecursion Posts (b ∷ bs)
    go Posting s e ih = (s, ih e)
    go Cancelling s e ih = let z : ◌≡◌ {A = ℕ} 0 1 = cc in absurd (omega arith)

all_split : {X : Type 0} (P : X → Type 0) (xs ys : List X) → AllByRecursion P (xs ++ ys) → AllByRecursion P xs × AllByRecursion P ys
all_split P [] ys a = (tt, a)
all_split P (x ∷ xs) ys a = let rest = all_split P xs ys a.1 in ((a.0, rest.0), rest.1)

-- postings one after another, each in front
posted_reversed : (key : Field) (lines : List Line) (ps : List ℕ) → AllByRecursion Posts (bookings_of (record { key = key; lines = lines })) → all_applied plain lines ps ≡ reverse_aux (map (λ (line : Line). line.number) lines) ps
posted_reversed key [] ps a = refl
posted_reversed key (line ∷ lines) ps a = rw a.0 (posted_reversed key lines (line.number ∷ ps) a.1)

put_some : (key : Field) (ns ps : List ℕ) → 0 < length ns + length ps → put plain key (reverse_aux ns ps) [] ≡ record { key = key; value = reverse_aux ns ps } ∷ []
put_some key [] [] h = absurd (omega arith)
put_some key [] (p ∷ ps) h = refl
put_some key (n ∷ ns) ps h = put_some key ns (n ∷ ps) (omega arith)

taken-++ : {V : Type 0} (kind : Kind) (keeping : Keeping V) (bs cs : List Booking) (list : List (Held V)) → lines_taken kind keeping (bs ++ cs) list ≡ lines_taken kind keeping cs (lines_taken kind keeping bs list)
taken-++ kind keeping [] cs list = refl
taken-++ kind keeping (b ∷ bs) cs list = taken-++ kind keeping bs cs (line_taken kind keeping b list)

abbrev Below : Kind → Field → Held (List ℕ) → Type 0
Below kind key h = (kind.lawful h.key ≡ true) × (below kind h.key key ≡ true)

-- rows above all that is held are put behind it
rows_appended : (kind : Kind) (before : Option Field) (rows : List Row) (list : Book) → KeysRise kind before rows → AllByRecursion (λ (row : Row). 0 < length row.lines) rows → AllByRecursion Posts (lines_under rows) → Sorted kind list
    → ((c : Field) → kind.lawful c ≡ true → above kind before c ≡ true → AllByRecursion (Below kind c) list) → lines_taken kind plain (lines_under rows) list ≡ list ++ map as_held rows
rows_appended kind before [] list k some posts s up = sym (append-nil list)
rows_appended kind before (row ∷ rows) list k some posts s up =
    taken-++ kind plain (bookings_of row) (lines_under rows) list ∙ ap (lines_taken kind plain (lines_under rows)) now
    ∙ (rows_appended kind (Some row.key) rows (list ++ as_held row ∷ []) k.2 some.1 split.1 (subst (Sorted kind) now (rw one (changed_sorted kind plain plain_follows.clear None row.key (all_applied plain row.lines) list tt k.0 refl s)))
    (λ c lc h. All-push (Below kind c) list (as_held row) (All-weaker (Below kind row.key) (Below kind c) (λ x g. (g.0, below_transitive kind x.key row.key c g.0 k.0 lc g.1 h)) list (up row.key k.0 k.1)) (k.0, h))
    ∙ append_assoc list (as_held row ∷ []) (map as_held rows))
  where
    split : AllByRecursion Posts (bookings_of row) × AllByRecursion Posts (lines_under rows)
    split = all_split Posts (bookings_of row) (lines_under rows) posts

    one : lines_taken kind plain (bookings_of row) list ≡ changed kind plain row.key (all_applied plain row.lines) list
    one = row_is_one_change plain plain_follows kind row list k.0 some.0 s

    numbers : List ℕ
    numbers = map (λ (line : Line). line.number) row.lines

    now : lines_taken kind plain (bookings_of row) list ≡ list ++ as_held row ∷ []
    now =
        one ∙ changed_end kind plain plain_follows.clear row.key (all_applied plain row.lines) list k.0 (up row.key k.0 k.1)
        ∙ ap (λ (l : Book). list ++ l)
        (ap (λ (ps : List ℕ). put plain row.key ps []) (posted_reversed row.key row.lines [] split.0)
        ∙ put_some row.key numbers [] (rw (length-map row.lines (λ (line : Line). line.number)) (omega (arith, some.0))))

pub merged_into_empty : MergedIntoTheEmptyBook
unfolding check_answer
merged_into_empty kind free code rows r some =
    checked_before plain plain_follows kind free code rows [] r tt
    ∙ then_assoc (kind_and_keys_answer kind code rows) (and_then (lines_answer kind plain 0 (lines_under rows) []) pages) (Accepted (lines_taken kind plain (lines_under rows) []))
    ∙ go (kind_and_keys_answer kind code rows) refl
  where
    pages : Answer Unit
    pages = pages_answer free (posting_lines (lines_under rows))

    lines : KeysRise kind None rows → (a : Answer Unit) → no_cancelling 0 (lines_under rows) ≡ a → and_then a (and_then pages (Accepted (lines_taken kind plain (lines_under rows) []))) ≡ and_then a (and_then pages (Accepted (map as_held rows)))
    lines k (Accepted tt) e = ap (λ (b : Book). and_then pages (Accepted b)) (rows_appended kind None rows [] k some (all_post 0 (lines_under rows) e) tt (λ c lc h. tt))
    lines k (Refused number place) e = refl

    go : (a : Answer Unit) → kind_and_keys_answer kind code rows ≡ a
        → and_then a (and_then (and_then (lines_answer kind plain 0 (lines_under rows) []) pages) (Accepted (lines_taken kind plain (lines_under rows) []))) ≡ and_then a (and_then (no_cancelling 0 (lines_under rows)) (and_then pages (Accepted (map as_held rows))))
    go (Accepted tt) e =
        then_assoc (lines_answer kind plain 0 (lines_under rows) []) pages (Accepted (lines_taken kind plain (lines_under rows) []))
        ∙ ap (λ (x : Answer Unit). and_then x (and_then pages (Accepted (lines_taken kind plain (lines_under rows) [])))) (empty_answers kind 0 (lines_under rows))
        ∙ lines (accepted_keys kind code rows e).1 (no_cancelling 0 (lines_under rows)) refl
    go (Refused number place) e = refl
