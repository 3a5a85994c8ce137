-- Laws of a store's meaning and of its answers, for those who make stores and those who call them.
use Rattle.std.proofs.Common.{◌≡◌, ℕ, ◌<◌, ◌≤◌, Bool, true, false, cond, eqb, ltb, ◌≢◌, List, length, set, sym, refl, ap, ◌∙◌, ⊎_elim, arith}
use Rattle.std.proofs.lemmas.List.{length-set, get_or-set_same, get_or-set_other, set_past, set-get_or, set-set, set_comm, ext_get_or, get_or_past}
use Rattle.std.proofs.lemmas.Bool.{eq-eqb, eqb-true, ltb-true, lt-ltb, le-ltb, cases_eq, cases_lt}
use Rattle.numbers.specs.BigEndian.{Bytes}
use Rattle.refusals.specs.Refusals.{Answer, Refused, on_accepted}
use Rattle.page_store.specs.Meanings.{Page, Live, Gone, Meaning, count_of, page_at, with_page, Sound, done, reached, found, read_answer, write_answer, bytes_or, after_read, after_write}

-- a refusal is no acceptance
pub never : (number place : ℕ) → Refused number place ≡ done → ⊥
never number place e = let o : ◌≡◌ {A = ℕ} 0 1 = cc in omega arith

-- what is refused before the page is looked at is refused whatever would follow
reach_cases : (a b : Bool) (x y then : Answer Unit) (number place : ℕ) → Refused number place ≡ cond a (cond b done x) y → Refused number place ≡ cond a (cond b then x) y
reach_cases true true x y then number place e = absurd (never number place e)
reach_cases true false x y then number place e = e
reach_cases false b x y then number place e = e

reach_accepts : (a b : Bool) (number place number' place' : ℕ) → done ≡ cond a (cond b done (Refused number place)) (Refused number' place') → (a ≡ true) × (b ≡ true)
reach_accepts true true number place number' place' e = (refl, refl)
reach_accepts true false number place number' place' e = absurd (never number place (sym e))
reach_accepts false b number place number' place' e = absurd (never number' place' (sym e))

module _ (count n len : ℕ) where
  pub refused_there : (then : Answer Unit) (number place : ℕ) → Refused number place ≡ reached count n len done → Refused number place ≡ reached count n len then
  refused_there then number place e = reach_cases (eqb len 512) (ltb n count) (Refused 12 n) (Refused 13 len) then number place e

  pub is_there : done ≡ reached count n len done → (len ≡ 512) × (n < count)
  is_there e = let p = reach_accepts (eqb len 512) (ltb n count) 12 n 13 len e in (eqb-true len 512 p.0, ltb-true n count p.1)

  pub goes_on : (then : Answer Unit) → len ≡ 512 → n < count → then ≡ reached count n len then
  goes_on then h l = rw (eq-eqb len 512 h, lt-ltb n count l)

  pub stops_past : (then : Answer Unit) → len ≡ 512 → count ≤ n → Refused 12 n ≡ reached count n len then
  stops_past then h l = rw (eq-eqb len 512 h, le-ltb n count l)

module _ (m : Meaning) where
  pub count_with : (n : ℕ) (bytes : List ℕ) → count_of (with_page m n bytes) ≡ count_of m
  count_with n bytes = length-set m.pages n (Live bytes)

  pub page_with : (n : ℕ) (bytes : List ℕ) → n < count_of m → page_at (with_page m n bytes) n ≡ Live bytes
  page_with n bytes h = get_or-set_same m.pages n (Live bytes) Gone h

  pub page_beside : (n k : ℕ) (bytes : List ℕ) → k ≢ n → page_at (with_page m n bytes) k ≡ page_at m k
  page_beside n k bytes h = get_or-set_other m.pages n k (Live bytes) Gone h

  pub with_past : (n : ℕ) (bytes : List ℕ) → count_of m ≤ n → with_page m n bytes ≡ m
  with_past n bytes h = ap (λ (ps : List Page). record { pages = ps }) (set_past m.pages n (Live bytes) h)

  -- a page written over with its own bytes
  pub with_same : (n : ℕ) (bytes : List ℕ) → page_at m n ≡ Live bytes → with_page m n bytes ≡ m
  with_same n bytes e = ap (λ (ps : List Page). record { pages = ps }) (ap (set m.pages n) (sym e) ∙ set-get_or m.pages n Gone)

  pub with_again : (n : ℕ) (old new : List ℕ) → with_page (with_page m n old) n new ≡ with_page m n new
  with_again n old new = ap (λ (ps : List Page). record { pages = ps }) (set-set m.pages n (Live old) (Live new))

  pub with_two : (n k : ℕ) (a b : List ℕ) → n ≢ k → with_page (with_page m n a) k b ≡ with_page (with_page m k b) n a
  with_two n k a b h = ap (λ (ps : List Page). record { pages = ps }) (set_comm m.pages n k (Live a) (Live b) h)

  pub past_is_gone : (n : ℕ) → count_of m ≤ n → page_at m n ≡ Gone
  past_is_gone n h = get_or_past m.pages n Gone h

  -- a page that is not lost is one of the pages
  pub live_is_there : (n : ℕ) (bytes : List ℕ) → page_at m n ≡ Live bytes → n < count_of m
  live_is_there n bytes e =
      ⊎_elim (λ h. h) (λ h. let z : Gone ≡ Live bytes = sym (past_is_gone n h) ∙ e in let o : ◌≡◌ {A = ℕ} 0 1 = cc in absurd (omega arith)) (cases_lt n (count_of m))

  -- what is true of the bytes of each page stays so
  kept_by_all : (P : List ℕ → Type 0) (n : ℕ) (new : List ℕ) → P new → ((k : ℕ) (bytes : List ℕ) → page_at m k ≡ Live bytes → P bytes)
      → (k : ℕ) (bytes : List ℕ) → page_at (with_page m n new) k ≡ Live bytes → P bytes
  kept_by_all P n new h all k bytes e =
      ⊎_elim
      (λ eq.
      let there = live_is_there' n new k bytes e in
      let same : Live new ≡ Live bytes = sym (page_with n new (rw eq at there)) ∙ (ap (page_at (with_page m n new)) (sym eq) ∙ e) in
      let is : new ≡ bytes = cc in
      rw (sym is) h)
      (λ ne. all k bytes (sym (page_beside n k new ne) ∙ e))
      (cases_eq k n)
    where
      live_is_there' : (n : ℕ) (new : List ℕ) (k : ℕ) (bytes : List ℕ) → page_at (with_page m n new) k ≡ Live bytes → k < count_of m
      live_is_there' n new k bytes e =
          ⊎_elim (λ h. h)
          (λ h. let z : Gone ≡ Live bytes = sym (get_or_past (set m.pages n (Live new)) k Gone (rw (length-set m.pages n (Live new)) h)) ∙ e in let o : ◌≡◌ {A = ℕ} 0 1 = cc in absurd (omega arith))
          (cases_lt k (count_of m))

  pub sound_with : Sound m → (n : ℕ) (bytes : List ℕ) → length bytes ≡ 512 → Bytes bytes → Sound (with_page m n bytes)
  sound_with s n bytes l b =
      record {
        has_at_most_65536_pages = rw (count_with n bytes) s.has_at_most_65536_pages;
        pages_have_512_bytes = kept_by_all (λ x. length x ≡ 512) n bytes l s.pages_have_512_bytes;
        pages_hold_bytes = kept_by_all (λ x. Bytes x) n bytes b s.pages_hold_bytes;
      }

-- two meanings with the same pages
pub same_meaning : (m k : Meaning) → count_of m ≡ count_of k → ((n : ℕ) → n < count_of m → page_at m n ≡ page_at k n) → m ≡ k
same_meaning m k l e = ap (λ (ps : List Page). record { pages = ps }) (ext_get_or Gone m.pages k.pages l e)

-- what a read of a page that is there answers and leaves in the buffer, by what the page is
left_by : (page : Page) (n : ℕ) (old : List ℕ) → bytes_or page old ≡ on_accepted (found page n) (bytes_or page old) old
left_by (Live bytes) n old = refl
left_by Gone n old = refl

module _ (m : Meaning) (n : ℕ) (old : List ℕ) (h : length old ≡ 512) (l : n < count_of m) where
  pub read_answers : (page : Page) → page_at m n ≡ page → found page n ≡ read_answer m n (length old)
  read_answers page e = ap (λ p. found p n) (sym e) ∙ goes_on (count_of m) n (length old) (found (page_at m n) n) h l

  pub read_fills : (page : Page) → page_at m n ≡ page → bytes_or page old ≡ after_read m n old
  read_fills page e =
      left_by page n old
      ∙ (ap (λ p. on_accepted (found p n) (bytes_or p old) old) (sym e) ∙ ap (λ a. on_accepted a (bytes_or (page_at m n) old) old) (goes_on (count_of m) n (length old) (found (page_at m n) n) h l))

-- and what a write of such a page answers and leaves
module _ (m : Meaning) (n : ℕ) (new : List ℕ) (h : length new ≡ 512) (l : n < count_of m) where
  pub write_answers : done ≡ write_answer m n (length new)
  write_answers = goes_on (count_of m) n (length new) done h l

  pub on_write : {X : Type 0} (x y : X) → x ≡ on_accepted (write_answer m n (length new)) x y
  on_write x y = ap (λ a. on_accepted a x y) write_answers

  pub write_leaves : with_page m n new ≡ after_write m n new
  write_leaves = on_write (with_page m n new) m

-- a read that was accepted found the page and left it in the buffer
accepted_then : (a b : Bool) (x y then : Answer Unit) (number place number' place' : ℕ) → x ≡ Refused number place → y ≡ Refused number' place' → done ≡ cond a (cond b then x) y → done ≡ then
accepted_then true true x y then number place number' place' p q e = e
accepted_then true false x y then number place number' place' p q e = absurd (never number place (sym (e ∙ p)))
accepted_then false b x y then number place number' place' p q e = absurd (never number' place' (sym (e ∙ q)))

live_if_found : (page : Page) (n : ℕ) (old : List ℕ) → done ≡ found page n → page ≡ Live (bytes_or page old)
live_if_found (Live bytes) n old e = refl
live_if_found Gone n old e = absurd (never 9 n (sym e))

pub read_was_live : (m : Meaning) (n : ℕ) (old new : List ℕ) → done ≡ read_answer m n (length old) → new ≡ after_read m n old → page_at m n ≡ Live new
read_was_live m n old new e f =
    let is = accepted_then (eqb (length old) 512) (ltb n (count_of m)) (Refused 12 n) (Refused 13 (length old)) (found (page_at m n) n) 12 n 13 (length old) refl refl e in
    live_if_found (page_at m n) n old is ∙ ap Live (sym (f ∙ ap (λ a. on_accepted a (bytes_or (page_at m n) old) old) (sym e)))

-- a write of any number leaves what a write of that page would: past the last page it leaves all as it was
pub wrote_any : (m k : Meaning) (n : ℕ) (new : List ℕ) → length new ≡ 512 → k ≡ after_write m n new → k ≡ with_page m n new
wrote_any m k n new h e =
    ⊎_elim
    (λ (l : n < count_of m). e ∙ sym (write_leaves m n new h l))
    (λ l. e ∙ (ap (λ a. on_accepted a (with_page m n new) m) (sym (stops_past (count_of m) n (length new) done h l)) ∙ sym (with_past m n new l)))
    (cases_lt n (count_of m))
