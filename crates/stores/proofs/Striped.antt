-- The pages of a stripe, and what a write to one half leaves of them.
use Rattle.std.proofs.Common.{◌≡◌, ℕ, ◌-◌, ◌/◌, ◌%◌, ◌<◌, cond, List, length, sym, refl, ap, ◌∙◌, ⊎_elim, arith, Ok, Err, Result, MatchResult}
use Rattle.std.proofs.lemmas.Bool.{cases_eq, cond-true, cond-false, eq-eqb, ne_eqb}
use Rattle.std.proofs.lemmas.List.FromFn.{length-map-range_with_len, get_or-map-range_with_len}
use Rattle.std.specs.Result.{IsErrAnd}
use Rattle.std.proofs.lemmas.Result.{err_from_is_err_and}
use Rattle.numbers.specs.BigEndian.{Bytes}
use Rattle.refusals.specs.declared.Refusal.{Refusal}
use Rattle.refusals.specs.declared.Refusal.TheVariants.{Lost}
use Rattle.refusals.specs.Refusals.{answer_of}
use Rattle.page_store.specs.Meanings.{Page, Live, Gone, Meaning, Sound, count_of, page_at, with_page, found, read_answer, write_answer, after_read}
use Rattle.page_store.proofs.Laws.{count_with, page_with, page_beside, live_is_there, same_meaning, read_answers, read_fills, write_answers}
use Rattle.stores.specs.Stripes.{stripe_count, is_even, stripe_page, stripe_pages, stripe_meaning, renamed}

-- the page of the second half that an odd page is
pub half_odd : (n : ℕ) → (n % 2 ≡ 0 → ⊥) → (n - 1) / 2 ≡ n / 2
half_odd n e = omega arith

module _ (a b : Meaning) where
  pub count_stripe : count_of (stripe_meaning a b) ≡ stripe_count (count_of a) (count_of b)
  unfolding stripe_pages
  count_stripe = length-map-range_with_len (stripe_page a b) 0 (stripe_count (count_of a) (count_of b))

  page_stripe : (n : ℕ) → n < stripe_count (count_of a) (count_of b) → page_at (stripe_meaning a b) n ≡ stripe_page a b n
  unfolding stripe_pages
  page_stripe n h = get_or-map-range_with_len (stripe_page a b) 0 (stripe_count (count_of a) (count_of b)) n n Gone h (omega arith)

  pub even_page : (n : ℕ) → n < count_of (stripe_meaning a b) → n % 2 ≡ 0 → page_at (stripe_meaning a b) n ≡ page_at a (n / 2)
  even_page n h e = let l = count_stripe in page_stripe n (omega arith) ∙ cond-true _ _ _ (eq-eqb (n % 2) 0 e)

  pub odd_page : (n : ℕ) → n < count_of (stripe_meaning a b) → (n % 2 ≡ 0 → ⊥) → page_at (stripe_meaning a b) n ≡ page_at b (n / 2)
  odd_page n h e = let l = count_stripe in page_stripe n (omega arith) ∙ cond-false _ _ _ (ne_eqb (n % 2) 0 e) ∙ ap (page_at b) (half_odd n e)

  -- whatever is true of every page's bytes in both halves is true in the stripe
  of_both : (P : List ℕ → Type 0) → ((k : ℕ) (bytes : List ℕ) → page_at a k ≡ Live bytes → P bytes) → ((k : ℕ) (bytes : List ℕ) → page_at b k ≡ Live bytes → P bytes)
      → (n : ℕ) (bytes : List ℕ) → page_at (stripe_meaning a b) n ≡ Live bytes → P bytes
  of_both P pa pb n bytes e =
      let there = live_is_there (stripe_meaning a b) n bytes e in
      ⊎_elim
      (λ (even : n % 2 ≡ 0). pa (n / 2) bytes (sym (even_page n there even) ∙ e))
      (λ odd. pb (n / 2) bytes (sym (odd_page n there odd) ∙ e))
      (cases_eq (n % 2) 0)

  pub sound_stripe : Sound a → Sound b → Sound (stripe_meaning a b)
  sound_stripe sa sb =
      let l = count_stripe in
      record {
        has_at_most_65536_pages = omega arith;
        pages_have_512_bytes = of_both (λ x. length x ≡ 512) sa.pages_have_512_bytes sb.pages_have_512_bytes;
        pages_hold_bytes = of_both (λ x. Bytes x) sa.pages_hold_bytes sb.pages_hold_bytes;
      }

-- meanings that agree but for page n
differ_at : (m k : Meaning) (n : ℕ) (bytes : List ℕ) → n < count_of m → count_of k ≡ count_of m → page_at k n ≡ Live bytes
    → ((i : ℕ) → i < count_of m → (i ≡ n → ⊥) → page_at k i ≡ page_at m i) → k ≡ with_page m n bytes
differ_at m k n bytes h l here other =
    same_meaning k (with_page m n bytes) (l ∙ sym (count_with m n bytes))
    (λ i lt. ⊎_elim
    (λ e. ap (page_at k) e ∙ (here ∙ sym (ap (page_at (with_page m n bytes)) e ∙ page_with m n bytes h)))
    (λ ne. other i (omega arith) ne ∙ sym (page_beside m n i bytes ne))
    (cases_eq i n))

module _ (a b : Meaning) (n : ℕ) (new : List ℕ) (h : n < count_of (stripe_meaning a b)) where
  pub write_even : n % 2 ≡ 0 → stripe_meaning (with_page a (n / 2) new) b ≡ with_page (stripe_meaning a b) n new
  write_even e =
      let a' = with_page a (n / 2) new in
      let la = count_with a (n / 2) new in
      let l = count_stripe a b in
      let l' = count_stripe a' b in
      let same : count_of (stripe_meaning a' b) ≡ count_of (stripe_meaning a b) = l' ∙ (ap (λ x. stripe_count x (count_of b)) la ∙ sym l) in
      differ_at (stripe_meaning a b) (stripe_meaning a' b) n new h same
      (even_page a' b n (omega arith) e ∙ page_with a (n / 2) new (omega arith))
      (λ k lt ne.
      ⊎_elim
      (λ (even : k % 2 ≡ 0). even_page a' b k (omega arith) even ∙ (page_beside a (n / 2) (k / 2) new (omega arith) ∙ sym (even_page a b k lt even)))
      (λ odd. odd_page a' b k (omega arith) odd ∙ sym (odd_page a b k lt odd))
      (cases_eq (k % 2) 0))

  pub write_odd : (n % 2 ≡ 0 → ⊥) → stripe_meaning a (with_page b (n / 2) new) ≡ with_page (stripe_meaning a b) n new
  write_odd e =
      let b' = with_page b (n / 2) new in
      let lb = count_with b (n / 2) new in
      let l = count_stripe a b in
      let l' = count_stripe a b' in
      let same : count_of (stripe_meaning a b') ≡ count_of (stripe_meaning a b) = l' ∙ (ap (λ x. stripe_count (count_of a) x) lb ∙ sym l) in
      differ_at (stripe_meaning a b) (stripe_meaning a b') n new h same
      (odd_page a b' n (omega arith) e ∙ page_with b (n / 2) new (omega arith))
      (λ k lt ne.
      ⊎_elim
      (λ (even : k % 2 ≡ 0). even_page a b' k (omega arith) even ∙ sym (even_page a b k lt even))
      (λ odd. odd_page a b' k (omega arith) odd ∙ (page_beside b (n / 2) (k / 2) new (omega arith) ∙ sym (odd_page a b k lt odd)))
      (cases_eq (k % 2) 0))

-- a refusal of a half, told by the stripe's own number
pub told_by_its_number : {Q : Refusal → Refusal → Type 0} (answer told : Result Unit Refusal) (n : ℕ) → MatchResult answer (λ x. told ≡ Ok x) (λ e. IsErrAnd told (Q e)) → ((e y : Refusal) → Q e y → y ≡ Lost n) → answer_of told ≡ renamed (answer_of answer) n
told_by_its_number (Ok value) told n e h = ap answer_of e
told_by_its_number (Err refusal) told n e h = let r = err_from_is_err_and told e in ap answer_of (r.1 ∙ ap Err (h refusal r.0 r.2))

-- a half's answer for a page that it has, renamed
renamed_found : (page : Page) (n k : ℕ) → renamed (found page k) n ≡ found page n
renamed_found (Live bytes) n k = refl
renamed_found Gone n k = refl

-- a call for page n of one store, handed on to page i of another that has the same page there
module _ (m k : Meaning) (n i : ℕ) (buffer : List ℕ) (h : length buffer ≡ 512) (l : n < count_of m) (j : i < count_of k) where
  pub read_via : page_at m n ≡ page_at k i → renamed (read_answer k i (length buffer)) n ≡ read_answer m n (length buffer)
  read_via e =
      ap (λ a. renamed a n) (sym (read_answers k i buffer h j (page_at k i) refl)) ∙ (renamed_found (page_at k i) n i ∙ read_answers m n buffer h l (page_at k i) e)

  pub fill_via : page_at m n ≡ page_at k i → after_read k i buffer ≡ after_read m n buffer
  fill_via e = sym (read_fills k i buffer h j (page_at k i) refl) ∙ read_fills m n buffer h l (page_at k i) e

  pub write_via : write_answer k i (length buffer) ≡ write_answer m n (length buffer)
  write_via = sym (write_answers k i buffer h j) ∙ write_answers m n buffer h l

-- what a write leaves of a half, by whether it holds the page
module _ (n : ℕ) {X : Type 0} (x y : X) where
  pub if_even : n % 2 ≡ 0 → x ≡ cond (is_even n) x y
  if_even e = sym (cond-true _ _ _ (eq-eqb (n % 2) 0 e))

  pub if_odd : (n % 2 ≡ 0 → ⊥) → y ≡ cond (is_even n) x y
  if_odd e = sym (cond-false _ _ _ (ne_eqb (n % 2) 0 e))
