-- A page, its seal and the slot that they fill, as the code reads and writes them.
use Rattle.std.proofs.Common.{◌≡◌, ℕ, ◌+◌, ◌<◌, ◌≤◌, true, false, List, [], ◌++◌, length, take, drop, sym, refl, ap, ◌∙◌, arith}
use borrow.Rule.Slice.PartMut.{put_mid, post_of}
use Rattle.std.proofs.lemmas.List.{length-drop, length-append, take_at, drop_at, take_all, drop_all, append-nil}
use Rattle.std.proofs.lemmas.Bool.{cond-false, ne_eqb, le-leb}
use Rattle.numbers.specs.BigEndian.{number_of, bytes_of, number_at, written}
use Rattle.numbers.proofs.Spelling.{number_bytes_of, length_bytes_of}
use Rattle.refusals.specs.Refusals.{Refused}
use Rattle.page_store.specs.Meanings.{Page, Live, Gone, done, found}
use Rattle.stores.specs.Slots.{seal, sealed_page, sealed_slot, is_live}
use Rattle.stores.specs.FormLaws.{agrees}

module _ (slot : List ℕ) where
  pub disagrees : (number_of (drop 512 slot) ≡ seal (take 512 slot) → ⊥) → sealed_page slot ≡ Gone
  unfolding sealed_page
  disagrees e = cond-false _ _ _ (ne_eqb _ _ e)

  -- the number past the page, as the code reads it
  pub past_page : length slot ≡ 516 → number_at 4 slot 512 ≡ number_of (drop 512 slot)
  unfolding number_at
  past_page l =
      let fits : 512 + 4 ≤ length slot = omega arith in
      rw (le-leb (512 + 4) (length slot) fits) (ap number_of (take_all 4 (drop 512 slot) (simp length-drop (omega arith))))

-- a page with its seal is not lost
pub sealed_is_live : (page : List ℕ) → length page ≡ 512 → seal page < 4294967296 → sealed_page (sealed_slot page) ≡ Live page
sealed_is_live page l h =
    let p = take_at page (bytes_of 4 (seal page)) 512 l in
    let q = drop_at page (bytes_of 4 (seal page)) 512 l in
    agrees (sealed_slot page) (ap number_of q ∙ (number_bytes_of 4 (seal page) h ∙ sym (ap seal p))) ∙ ap Live p

-- a slot after a page was written to its front and then four bytes past it
pub filled : (slot page four : List ℕ) → length slot ≡ 516 → length page ≡ 512 → length four ≡ 4 → put_mid 512 4 (page ++ post_of 0 512 slot) four ≡ page ++ four
filled slot page four l m n =
    let rest = post_of 0 512 slot in
    let lr : length rest ≤ 4 = simp length-drop (omega arith) in
    let p : take 512 (page ++ rest) ≡ page = take_at page rest 512 m in
    let q : drop 512 (page ++ rest) ≡ rest = drop_at page rest 512 m in
    let z : drop 4 (drop 512 (page ++ rest)) ≡ [] = ap (drop 4) q ∙ drop_all 4 rest lr in
    ap (λ x. x ++ (four ++ drop 4 (drop 512 (page ++ rest)))) p ∙ (ap (λ x. page ++ (four ++ x)) z ∙ ap (λ x. page ++ x) (append-nil four))

-- four bytes written behind a page
pub sealed_behind : (page rest : List ℕ) → length page ≡ 512 → length rest ≡ 4 → written (page ++ rest) 512 (bytes_of 4 (seal page)) ≡ sealed_slot page
unfolding written
sealed_behind page rest l m =
    let four = bytes_of 4 (seal page) in
    let wide = length_bytes_of 4 (seal page) in
    let fits : 512 + length four ≤ length (page ++ rest) = simp length-append (omega arith) in
    let p = take_at page rest 512 l in
    let all : length (page ++ rest) ≤ 512 + length four = simp length-append (omega arith) in
    let none = drop_all (512 + length four) (page ++ rest) all in
    rw (le-leb (512 + length four) (length (page ++ rest)) fits, p, none, append-nil four)

-- what a read answers, by whether the seal agreed
pub found_live : (page : Page) (n : ℕ) → true ≡ is_live page → done ≡ found page n
found_live (Live bytes) n e = refl
found_live Gone n e = let o : ◌≡◌ {A = ℕ} 0 1 = cc in absurd (omega arith)

pub found_gone : (page : Page) (n : ℕ) → false ≡ is_live page → Refused 9 n ≡ found page n
found_gone (Live bytes) n e = let o : ◌≡◌ {A = ℕ} 0 1 = cc in absurd (omega arith)
found_gone Gone n e = refl
