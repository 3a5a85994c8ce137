-- Held pages put into a store: what each change of what is held, or of the store below, does to the whole.
use Rattle.std.proofs.Common.{◌≡◌, ℕ, zero, suc, ◌+◌, ◌<◌, true, false, not, eqb, ◌≢◌, ◌⊎◌, List, [], ◌∷◌, ◌++◌, length, get_or, take, set, drop, sym, refl, ap, ◌∙◌, subst, inl, inr, ⊎_elim, arith, ltb, Option, Some, None, MatchOption}
use Rattle.std.specs.List.{position, position_or_len, refill}
use Rattle.std.proofs.lemmas.List.{take_more, take_at, length-set, length-map, map-set, map-append, get_or-map, set-get_or}
use Rattle.std.proofs.lemmas.List.Sums.{passes_at_first, fails_before_first}
use Rattle.std.proofs.ByRecursion.{has_get_or, All-from_get_or}
use Rattle.std.proofs.lemmas.Slice.Eq.{bytes_eq-Decides}
use Rattle.std.proofs.lemmas.Bool.{eq-eqb, ne_eqb, eqb-true, eqb-false, ltb-true, ltb-false, cond_both, or_parts, or_from, or_left, or_right, and_parts, and_from, not-true, not_from_false, both_ways}
use Rattle.page_store.specs.Meanings.{Page, Live, Gone, Meaning, Sound, count_of, page_at, with_page, read_answer, after_read}
use Rattle.page_store.proofs.Laws.{count_with, page_with, page_beside, with_again, with_two, sound_with}
use Rattle.cache.specs.declared.held.Held.{Held}
use Rattle.cache.specs.declared.held.Entry.{Entry}
use Rattle.cache.specs.declared.held.Mark.{Mark}
use Rattle.cache.specs.declared.held.Mark.TheVariants.{Clean}
use Rattle.cache.specs.Holding.{pages_of, put_in, holds, all_apart, same_page, same_pages, same_meaning, Spares}

pub count_in : (hs : List Held) (m : Meaning) → count_of (put_in hs m) ≡ count_of m
count_in [] m = refl
count_in (h ∷ hs) m = count_with (put_in hs m) h.page h.bytes ∙ count_in hs m

pub sound_in : (hs : List Held) (m : Meaning) → Sound m → Sound (put_in hs m)
sound_in [] m s = s
sound_in (h ∷ hs) m s =
    sound_with (put_in hs m) (sound_in hs m s) h.page h.bytes h.is_whole (All-from_get_or (λ x. x < 256) h.bytes 0 (λ i l. h.has_bytes i))

-- a page that is not held is the store's
pub page_missed : (hs : List Held) (m : Meaning) (n : ℕ) → holds hs n ≡ false → page_at (put_in hs m) n ≡ page_at m n
page_missed [] m n e = refl
page_missed (h ∷ hs) m n e =
    let p = or_parts (eqb n h.page) (holds hs n) e in
    page_beside (put_in hs m) h.page n h.bytes (eqb-false n h.page p.0) ∙ page_missed hs m n p.1

-- the place that holds a page
pub held_there : (hs : List Held) (i : ℕ) (d : Held) → i < length hs → holds hs (get_or hs i d).page ≡ true
held_there [] i d l = absurd (omega arith)
held_there (h ∷ hs) zero d l = or_left (eqb h.page h.page) (holds hs h.page) (eq-eqb h.page h.page refl)
held_there (h ∷ hs) (suc i) d l = or_right (eqb (get_or hs i d).page h.page) (holds hs (get_or hs i d).page) (held_there hs i d (omega arith))

-- in a list with no page twice, the first differs from the others
first_apart : (h : Held) (hs : List Held) (i : ℕ) (d : Held) → all_apart (h ∷ hs) ≡ true → i < length hs → (get_or hs i d).page ≢ h.page
first_apart h hs i d a l e =
    let p = and_parts (not (holds hs h.page)) (all_apart hs) a in
    both_ways (holds hs h.page) (not-true (holds hs h.page) p.0) (rw e at (held_there hs i d l))

-- a held page is what is held
pub page_held : (hs : List Held) (m : Meaning) (i : ℕ) (d : Held) → all_apart hs ≡ true → i < length hs → (get_or hs i d).page < count_of m → page_at (put_in hs m) (get_or hs i d).page ≡ Live (get_or hs i d).bytes
page_held [] m i d a l h = absurd (omega arith)
page_held (x ∷ hs) m zero d a l h = page_with (put_in hs m) x.page x.bytes (omega (arith, count_in hs m))
page_held (x ∷ hs) m (suc i) d a l h =
    let p = and_parts (not (holds hs x.page)) (all_apart hs) a in
    page_beside (put_in hs m) x.page (get_or hs i d).page x.bytes (first_apart x hs i d a (omega arith)) ∙ page_held hs m i d p.1 (omega arith) h

-- a page that is not held may as well be written below
pub written_below : (hs : List Held) (m : Meaning) (n : ℕ) (bytes : List ℕ) → holds hs n ≡ false → put_in hs (with_page m n bytes) ≡ with_page (put_in hs m) n bytes
written_below [] m n bytes e = refl
written_below (h ∷ hs) m n bytes e =
    let p = or_parts (eqb n h.page) (holds hs n) e in
    ap (λ (k : Meaning). with_page k h.page h.bytes) (written_below hs m n bytes p.1)
    ∙ with_two (put_in hs m) n h.page bytes h.bytes (eqb-false n h.page p.0)

-- one page more
pub holding_more : (hs : List Held) (h : Held) (m : Meaning) → holds hs h.page ≡ false → put_in (hs ++ (h ∷ [])) m ≡ with_page (put_in hs m) h.page h.bytes
holding_more hs h m e = push hs h m ∙ written_below hs m h.page h.bytes e
  where
    push : (hs : List Held) (h : Held) (m : Meaning) → put_in (hs ++ (h ∷ [])) m ≡ put_in hs (with_page m h.page h.bytes)
    push [] h m = refl
    push (x ∷ hs) h m = ap (λ (k : Meaning). with_page k x.page x.bytes) (push hs h m)

-- other bytes for a page that is held
pub holding_other : (hs : List Held) (m : Meaning) (i : ℕ) (d h : Held) → all_apart hs ≡ true → i < length hs → (get_or hs i d).page ≡ h.page → put_in (set hs i h) m ≡ with_page (put_in hs m) h.page h.bytes
holding_other [] m i d h a l e = absurd (omega arith)
holding_other (x ∷ hs) m zero d h a l e =
    sym (with_again (put_in hs m) h.page x.bytes h.bytes) ∙ ap (λ (n : ℕ). with_page (with_page (put_in hs m) n x.bytes) h.page h.bytes) (sym e)
holding_other (x ∷ hs) m (suc i) d h a l e =
    let p = and_parts (not (holds hs x.page)) (all_apart hs) a in
    ap (λ (k : Meaning). with_page k x.page x.bytes) (holding_other hs m i d h p.1 (omega arith) e)
    ∙ with_two (put_in hs m) h.page x.page h.bytes x.bytes (λ q. first_apart x hs i d a (omega arith) (e ∙ q))

-- a held page written below: nothing changes as long as it is held
pub backed : (hs : List Held) (m : Meaning) (i : ℕ) (d : Held) → all_apart hs ≡ true → i < length hs → put_in hs (with_page m (get_or hs i d).page (get_or hs i d).bytes) ≡ put_in hs m
backed [] m i d a l = absurd (omega arith)
backed (x ∷ hs) m zero d a l =
    let p = and_parts (not (holds hs x.page)) (all_apart hs) a in
    ap (λ (k : Meaning). with_page k x.page x.bytes) (written_below hs m x.page x.bytes (not-true (holds hs x.page) p.0))
    ∙ with_again (put_in hs m) x.page x.bytes x.bytes
backed (x ∷ hs) m (suc i) d a l =
    let p = and_parts (not (holds hs x.page)) (all_apart hs) a in
    ap (λ (k : Meaning). with_page k x.page x.bytes) (backed hs m i d p.1 (omega arith))

-- and nothing but the new page when another takes its place
pub swapped : (hs : List Held) (m : Meaning) (i : ℕ) (d h : Held) → all_apart hs ≡ true → i < length hs → holds hs h.page ≡ false
    → put_in (set hs i h) (with_page m (get_or hs i d).page (get_or hs i d).bytes) ≡ with_page (put_in hs m) h.page h.bytes
swapped [] m i d h a l e = absurd (omega arith)
swapped (x ∷ hs) m zero d h a l e =
    let p = and_parts (not (holds hs x.page)) (all_apart hs) a in
    ap (λ (k : Meaning). with_page k h.page h.bytes) (written_below hs m x.page x.bytes (not-true (holds hs x.page) p.0))
swapped (x ∷ hs) m (suc i) d h a l e =
    let p = and_parts (not (holds hs x.page)) (all_apart hs) a in
    let q = or_parts (eqb h.page x.page) (holds hs h.page) e in
    ap (λ (k : Meaning). with_page k x.page x.bytes) (swapped hs m i d h p.1 (omega arith) q.1)
    ∙ with_two (put_in hs m) h.page x.page h.bytes x.bytes (eqb-false h.page x.page q.0)

-- which pages are held, after each change
holds_more : (hs : List Held) (h : Held) (n : ℕ) → holds hs n ≡ false → n ≢ h.page → holds (hs ++ (h ∷ [])) n ≡ false
holds_more [] h n e ne = or_from (eqb n h.page) false (ne_eqb n h.page ne) refl
holds_more (x ∷ hs) h n e ne =
    let p = or_parts (eqb n x.page) (holds hs n) e in
    or_from (eqb n x.page) (holds (hs ++ (h ∷ [])) n) p.0 (holds_more hs h n p.1 ne)

holds_set : (hs : List Held) (i : ℕ) (h : Held) (n : ℕ) → holds hs n ≡ false → n ≢ h.page → holds (set hs i h) n ≡ false
holds_set [] i h n e ne = e
holds_set (x ∷ hs) zero h n e ne = let p = or_parts (eqb n x.page) (holds hs n) e in or_from (eqb n h.page) (holds hs n) (ne_eqb n h.page ne) p.1
holds_set (x ∷ hs) (suc i) h n e ne =
    let p = or_parts (eqb n x.page) (holds hs n) e in
    or_from (eqb n x.page) (holds (set hs i h) n) p.0 (holds_set hs i h n p.1 ne)

pub apart_more : (hs : List Held) (h : Held) → all_apart hs ≡ true → holds hs h.page ≡ false → all_apart (hs ++ (h ∷ [])) ≡ true
apart_more [] h a e = refl
apart_more (x ∷ hs) h a e =
    let p = and_parts (not (holds hs x.page)) (all_apart hs) a in
    let q = or_parts (eqb h.page x.page) (holds hs h.page) e in
    and_from (not (holds (hs ++ (h ∷ [])) x.page)) (all_apart (hs ++ (h ∷ [])))
    (not_from_false (holds (hs ++ (h ∷ [])) x.page) (holds_more hs h x.page (not-true (holds hs x.page) p.0) (λ z. eqb-false h.page x.page q.0 (sym z))))
    (apart_more hs h p.1 q.1)

-- a place may take a page that no other place holds
pub apart_set : (hs : List Held) (i : ℕ) (d h : Held) → all_apart hs ≡ true → i < length hs → (holds hs h.page ≡ false) ⊎ ((get_or hs i d).page ≡ h.page) → all_apart (set hs i h) ≡ true
apart_set [] i d h a l e = a
apart_set (x ∷ hs) zero d h a l e =
    let p = and_parts (not (holds hs x.page)) (all_apart hs) a in
    and_from (not (holds hs h.page)) (all_apart hs)
    (⊎_elim (λ o. not_from_false (holds hs h.page) (or_parts (eqb h.page x.page) (holds hs h.page) o).1) (λ z. ap (λ (n : ℕ). not (holds hs n)) (sym z) ∙ p.0) e)
    p.1
apart_set (x ∷ hs) (suc i) d h a l e =
    let p = and_parts (not (holds hs x.page)) (all_apart hs) a in
    let other : x.page ≢ h.page =
    ⊎_elim (λ o z. eqb-false h.page x.page (or_parts (eqb h.page x.page) (holds hs h.page) o).0 (sym z)) (λ z w. first_apart x hs i d a (omega arith) (z ∙ sym w)) e in
    and_from (not (holds (set hs i h) x.page)) (all_apart (set hs i h))
    (not_from_false (holds (set hs i h) x.page) (holds_set hs i h x.page (not-true (holds hs x.page) p.0) other))
    (apart_set hs i d h p.1 (omega arith) (⊎_elim (λ o. inl (or_parts (eqb h.page x.page) (holds hs h.page) o).1) (λ z. inr z) e))

-- the pages so far, one more
pub holds_take : (hs : List Held) (i : ℕ) (d : Held) (n : ℕ) → i < length hs → holds (take i hs) n ≡ false → ((get_or hs i d).page ≡ n → ⊥) → holds (take (i + 1) hs) n ≡ false
holds_take hs i d n l e ne = rw (take_more hs i d l) (holds_more (take i hs) (get_or hs i d) n e (λ z. ne (sym z)))

holds_none : (es : List Entry) (n : ℕ) → ((k : ℕ) (d : Entry) → k < length es → eqb (get_or es k d).held.page n ≡ false) → holds (pages_of es) n ≡ false
holds_none [] n h = refl
holds_none (e ∷ es) n h =
    or_from (eqb n e.held.page) (holds (pages_of es) n)
    (ne_eqb n e.held.page (λ z. eqb-false e.held.page n (h 0 e (omega arith)) (sym z)))
    (holds_none es n (λ k d l. h (suc k) d (omega arith)))

-- the first place with a page, or none if it is not held
pub place_found : (es : List Entry) (n : ℕ) (r : Option ℕ) → r ≡ position (λ (entry : Entry). eqb entry.held.page n) es
    → MatchOption r (holds (pages_of es) n ≡ false) (λ i. (i < length (pages_of es)) × ((d : Held) → (get_or (pages_of es) i d).page ≡ n))
place_found es n r is =
    let test = λ (entry : Entry). eqb entry.held.page n in
    let i = position_or_len test es in
    let P : Option ℕ → Type 0 = λ o. MatchOption o (holds (pages_of es) n ≡ false) (λ (j : ℕ). (j < length (pages_of es)) × ((d : Held) → (get_or (pages_of es) j d).page ≡ n)) in
    let all = length-map es (λ (entry : Entry). entry.held) in
    subst P (sym is)
    (cond_both (ltb i (length es)) (Some i) None P
    (λ t.
    let l = ltb-true i (length es) t in (
      omega arith,
      (λ (d : Held).
          let e : Entry = record { held = d; mark = Clean } in
          ap (λ (h : Held). h.page) (get_or-map (λ (entry : Entry). entry.held) es i e d l) ∙ eqb-true (get_or es i e).held.page n (passes_at_first test es e l)),
    ))
    (λ t. holds_none es n (λ k d l. fails_before_first test es k d (omega (arith, ltb-false i (length es) t)))))

-- an entry written over one of those that are lent, and one more behind them
pub pages_set : (es lent : List Entry) (i : ℕ) (e : Entry) → lent ≡ es → pages_of (refill (length es) es (set lent i e)) ≡ set (pages_of es) i e.held
pages_set es lent i e is =
    let long : length (set lent i e) ≡ length es = length-set lent i e ∙ ap length is in
    ap pages_of (take_at (set lent i e) (drop (length (set lent i e)) es) (length es) long ∙ ap (λ (xs : List Entry). set xs i e) is)
    ∙ map-set (λ (entry : Entry). entry.held) es i e

-- the entries back from a loan
pub pages_back : (es lent : List Entry) → length lent ≡ length es → pages_of (refill (length es) es lent) ≡ pages_of lent
pages_back es lent long = ap pages_of (take_at lent (drop (length lent) es) (length es) long)

-- another mark changes no page
pub pages_marked : (es : List Entry) (i : ℕ) (d : Entry) (mark : Mark) → i < length es → pages_of (set es i (record { held = (get_or es i d).held; mark = mark })) ≡ pages_of es
pages_marked es i d mark l =
    let hs = pages_of es in
    map-set (λ (entry : Entry). entry.held) es i (record { held = (get_or es i d).held; mark = mark })
    ∙ ap (set hs i) (sym (get_or-map (λ (entry : Entry). entry.held) es i d d.held l))
    ∙ set-get_or hs i d.held

pub pages_push : (es : List Entry) (e : Entry) → pages_of (es ++ (e ∷ [])) ≡ pages_of es ++ (e.held ∷ [])
pages_push es e = map-append (λ (entry : Entry). entry.held) es (e ∷ [])

-- the pages before a place hold none of that place
pub before_missed : (hs : List Held) (i : ℕ) (d : Held) → all_apart hs ≡ true → i < length hs → holds (take i hs) (get_or hs i d).page ≡ false
before_missed [] i d a l = absurd (omega arith)
before_missed (x ∷ hs) zero d a l = refl
before_missed (x ∷ hs) (suc i) d a l =
    let p = and_parts (not (holds hs x.page)) (all_apart hs) a in
    or_from (eqb (get_or hs i d).page x.page) (holds (take i hs) (get_or hs i d).page) (ne_eqb (get_or hs i d).page x.page (first_apart x hs i d a (omega arith))) (before_missed hs i d p.1 (omega arith))

pub holds_last : (hs : List Held) (h : Held) → holds (hs ++ (h ∷ [])) h.page ≡ true
holds_last [] h = or_left (eqb h.page h.page) false (eq-eqb h.page h.page refl)
holds_last (x ∷ hs) h = or_right (eqb h.page x.page) (holds (hs ++ (h ∷ [])) h.page) (holds_last hs h)

pub holds_put : (hs : List Held) (i : ℕ) (h : Held) → i < length hs → holds (set hs i h) h.page ≡ true
holds_put [] i h l = absurd (omega arith)
holds_put (x ∷ hs) zero h l = or_left (eqb h.page h.page) (holds hs h.page) (eq-eqb h.page h.page refl)
holds_put (x ∷ hs) (suc i) h l = or_right (eqb h.page x.page) (holds (set hs i h) h.page) (holds_put hs i h (omega arith))

-- page n in place i
pub page_found : (hs : List Held) (m : Meaning) (n i : ℕ) (d : Held) → all_apart hs ≡ true → i < length hs → (get_or hs i d).page ≡ n → n < count_of m → page_at (put_in hs m) n ≡ Live (get_or hs i d).bytes
page_found hs m n i d a l e h = ap (page_at (put_in hs m)) (sym e) ∙ page_held hs m i d a l (omega arith)

-- a write that leaves the store below alone, and one that brings the page of one place down
pub spares_all : (hs : List Held) (n : ℕ) (m k : Meaning) → k ≡ m → Spares hs n m k
spares_all hs n m k e = record { keeps_all_if_its_own_was_held = λ h. e; keeps_all_if_fewer_than_four_were = λ h. e; changes_at_most_one_other_that_was_held = inl e }

pub spares_but_one : (hs : List Held) (n : ℕ) (m k : Meaning) (i : ℕ) (d : Held) → length hs ≡ 4 → holds hs n ≡ false → i < length hs → k ≡ with_page m (get_or hs i d).page (get_or hs i d).bytes → Spares hs n m k
spares_but_one hs n m k i d l miss h e =
    record {
      keeps_all_if_its_own_was_held = λ own. absurd (both_ways (holds hs n) miss own);
      keeps_all_if_fewer_than_four_were = λ few. absurd (omega arith);
      changes_at_most_one_other_that_was_held =
          inr (get_or hs i d, has_get_or hs i d h, (λ z. both_ways (holds hs n) miss (ap (holds hs) (sym z) ∙ held_there hs i d h)), e);
    }

-- two meanings that are one are the same, and the other way round
same_page_itself : (p : Page) → same_page p p ≡ true
same_page_itself (Live xs) = (bytes_eq-Decides xs xs).1 refl
same_page_itself Gone = refl

same_pages_itself : (ps : List Page) → same_pages ps ps ≡ true
same_pages_itself [] = refl
same_pages_itself (p ∷ ps) = and_from (same_page p p) (same_pages ps ps) (same_page_itself p) (same_pages_itself ps)

pub same_as_itself : (m k : Meaning) → m ≡ k → same_meaning m k ≡ true
unfolding same_meaning
same_as_itself m k e = rw e (same_pages_itself k.pages)

is_page : (p q : Page) → same_page p q ≡ true → p ≡ q
is_page (Live xs) (Live ys) e = ap Live ((bytes_eq-Decides xs ys).0 e)
is_page (Live xs) Gone e = absurd (both_ways false refl e)
is_page Gone (Live ys) e = absurd (both_ways false refl e)
is_page Gone Gone e = refl

is_pages : (ps qs : List Page) → same_pages ps qs ≡ true → ps ≡ qs
is_pages [] [] e = refl
is_pages [] (q ∷ qs) e = absurd (both_ways false refl e)
is_pages (p ∷ ps) [] e = absurd (both_ways false refl e)
is_pages (p ∷ ps) (q ∷ qs) e =
    let s = and_parts (same_page p q) (same_pages ps qs) e in
    let a = is_page p q s.0 in
    let b = is_pages ps qs s.1 in
    cc

pub same_is_equal : (m k : Meaning) → same_meaning m k ≡ true → m ≡ k
unfolding same_meaning
same_is_equal m k e = ap (λ (ps : List Page). record { pages = ps }) (is_pages m.pages k.pages e)

pub take_set_in : {X : Type 0} (n : ℕ) (xs : List X) (i : ℕ) (x : X) → take n (set xs i x) ≡ set (take n xs) i x
take_set_in zero xs i x = refl
take_set_in (suc n) [] i x = refl
take_set_in (suc n) (y ∷ xs) zero x = refl
take_set_in (suc n) (y ∷ xs) (suc i) x = ap (λ t. y ∷ t) (take_set_in n xs i x)

-- some page that is held, to stand where a default is asked for
pub any_held : (hs : List Held) (i : ℕ) → i < length hs → Held
any_held [] i l = absurd (omega arith)
any_held (h ∷ hs) i l = h

-- held pages written down one by one
pub one_more_down : (hs : List Held) (m : Meaning) (i : ℕ) (d : Held) → all_apart hs ≡ true → i < length hs
    → with_page (put_in (take i hs) m) (get_or hs i d).page (get_or hs i d).bytes ≡ put_in (take (i + 1) hs) m
one_more_down hs m i d a l =
    sym (ap (λ (x : List Held). put_in x m) (take_more hs i d l) ∙ holding_more (take i hs) (get_or hs i d) m (before_missed hs i d a l))

-- a store and the same with held pages answer alike for a page that is not held
pub read_missed : (m k : Meaning) (n len : ℕ) → count_of k ≡ count_of m → page_at k n ≡ page_at m n → read_answer m n len ≡ read_answer k n len
read_missed m k n len e f = rw (e, f)

pub fill_missed : (m k : Meaning) (n : ℕ) (old : List ℕ) → count_of k ≡ count_of m → page_at k n ≡ page_at m n → after_read m n old ≡ after_read k n old
fill_missed m k n old e f = rw (e, f)
