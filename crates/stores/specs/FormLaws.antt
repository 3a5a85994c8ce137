-- The two forms of a slot are forms: a page alone, and a page with its seal.
use Rattle.std.specs.Prelude.{◌≡◌, ℕ, ◌+◌, ◌*◌, ◌<◌, ◌≤◌, true, List, [], ◌∷◌, length, take, drop, ◌==◌, refl}
use Rattle.std.proofs.Common.{sym, ap, ◌∙◌, ⊎_elim, arith}
use Rattle.std.proofs.lemmas.Nat.{mul-le}
use Rattle.std.proofs.lemmas.List.{length-take, length-append, take_at, drop_at}
use Rattle.std.proofs.ByRecursion.{All-take}
use Rattle.std.proofs.lemmas.Bool.{cases_Bool, cond-true, cond-false, eq-eqb}
use Rattle.numbers.specs.BigEndian.{Bytes, number_of, bytes_of}
use Rattle.numbers.proofs.Spelling.{number_bytes_of, length_bytes_of}
use Rattle.page_store.specs.Meanings.{Live, Gone}
use Rattle.stores.specs.Slots.{IsForm, seal, seal_from, sealed_page, sealed_slot}

same_bytes : (xs ys : List ℕ) → Live xs ≡ Live ys → xs ≡ ys
same_bytes xs ys e = cc

lost_or_not : (bytes : List ℕ) → Gone ≡ Live bytes → ⊥
lost_or_not bytes e = cc

pub bare_is_a_form : IsForm 512 Live (λ page. page)
bare_is_a_form =
    record {
      has_a_width = omega arith;
      pages_have_512_bytes = λ slot bytes l e. rw (sym (same_bytes slot bytes e)) l;
      pages_hold_bytes = λ slot bytes b e. rw (sym (same_bytes slot bytes e)) b;
      slots_have_the_width = λ page l. l;
      gives_the_page_back = λ page l b. refl;
    }

module _ (slot : List ℕ) where
  pub agrees : number_of (drop 512 slot) ≡ seal (take 512 slot) → sealed_page slot ≡ Live (take 512 slot)
  unfolding sealed_page
  agrees e = cond-true _ _ _ (eq-eqb _ _ e)

  -- a page that is not lost is the front of its slot
  is_the_front : (bytes : List ℕ) → sealed_page slot ≡ Live bytes → take 512 slot ≡ bytes
  unfolding sealed_page
  is_the_front bytes e =
      ⊎_elim
      (λ (t : number_of (drop 512 slot) == seal (take 512 slot) ≡ true). same_bytes (take 512 slot) bytes (sym (cond-true _ _ _ t) ∙ e))
      (λ t. absurd (lost_or_not bytes (sym (cond-false _ _ _ t) ∙ e)))
      (cases_Bool (number_of (drop 512 slot) == seal (take 512 slot)))

-- each of at most 512 bytes counts at most 512 times 255
seal_from_fits : (i : ℕ) (bytes : List ℕ) → Bytes bytes → i + length bytes ≤ 512 → seal_from i bytes ≤ 130560 * length bytes
seal_from_fits i [] b h = omega arith
seal_from_fits i (byte ∷ bytes) b h =
    let first = mul-le (i + 1) byte 512 255 (omega arith) (omega (arith, b.0)) in
    let rest = seal_from_fits (i + 1) bytes b.1 (omega arith) in
    omega arith

pub seal_fits : (page : List ℕ) → length page ≡ 512 → Bytes page → seal page < 4294967296
seal_fits page l b = omega (arith, seal_from_fits 0 page b (omega arith))

pub sealed_is_a_form : IsForm 516 sealed_page sealed_slot
sealed_is_a_form =
    record {
      has_a_width = omega arith;
      pages_have_512_bytes = λ slot bytes l e. rw (sym (is_the_front slot bytes e)) (simp length-take (omega arith));
      pages_hold_bytes = λ slot bytes b e. rw (sym (is_the_front slot bytes e)) (All-take (λ x. x < 256) 512 slot b);
      slots_have_the_width = λ page l. length-append page (bytes_of 4 (seal page)) ∙ omega (arith, length_bytes_of 4 (seal page));
      gives_the_page_back = λ page l b.
          let p = take_at page (bytes_of 4 (seal page)) 512 l in
          let q = drop_at page (bytes_of 4 (seal page)) 512 l in
          agrees (sealed_slot page) (ap number_of q ∙ (number_bytes_of 4 (seal page) (seal_fits page l b) ∙ sym (ap seal p))) ∙ ap Live p;
    }
