-- A memory cut into slots of one width, each read by one rule: its pages, and what a write to one slot leaves.
use Rattle.std.proofs.Common.{◌≡◌, ℕ, suc, ◌+◌, ◌*◌, ◌/◌, ◌<◌, ◌≤◌, List, length, get_or, drop, set, sym, ap, ◌∙◌, ⊎_elim, mul-le-mul_left, mul-suc, arith}
use native.Mathlib.Nat.{mul-div-le}
use Rattle.std.proofs.lemmas.List.{ext_get_or, length-set, get_or-set_same, get_or-set_other, length-take, length-drop}
use Rattle.std.proofs.ByRecursion.{All-take, All-drop}
use Rattle.std.proofs.lemmas.Bool.{cases_order}
use Rattle.std.proofs.lemmas.List.FromFn.{length-map-range_with_len, get_or-map-range_with_len}
use Rattle.numbers.specs.BigEndian.{Bytes, part, written}
use Rattle.page_store.specs.Meanings.{Page, Live, Gone, Sound, count_of, found, bytes_or, read_answer, after_read, after_write}
use Rattle.page_store.proofs.Laws.{live_is_there, read_answers, read_fills, on_write, write_leaves}
use Rattle.stores.specs.Slots.{slot_count, slot_pages, slots_meaning, slots_written, IsForm}
use Rattle.stores.proofs.Parts.{length_written, part_there, part_below, part_above}

apart : (w k n : ℕ) → k < n → w * k + w ≤ w * n
apart w k n h = let le : w * suc k ≤ w * n = mul-le-mul_left w h in let e = mul-suc w k in omega arith

-- a slot ends within the memory
pub slot_fits : (w n len : ℕ) → n < slot_count w len → w * n + w ≤ len
slot_fits w n len h = let a = apart w n (len / w) (omega arith) in let d = mul-div-le len w in omega arith

module _ (w : ℕ) (f : List ℕ → Page) where
  pub count_slots : (m : List ℕ) → length (slot_pages w f m) ≡ slot_count w (length m)
  unfolding slot_pages
  count_slots m = length-map-range_with_len (λ n. f (part (w * n) w m)) 0 (slot_count w (length m))

  pub page_slots : (m : List ℕ) (n : ℕ) → n < slot_count w (length m) → get_or (slot_pages w f m) n Gone ≡ f (part (w * n) w m)
  unfolding slot_pages
  page_slots m n h = get_or-map-range_with_len (λ k. f (part (w * k) w m)) 0 (slot_count w (length m)) n n Gone h (omega arith)

  -- a slot's bytes written over: that page is what they spell, and no other page changes
  pub write_slot : (m b : List ℕ) (n : ℕ) → length b ≡ w → n < slot_count w (length m) → slot_pages w f (written m (w * n) b) ≡ set (slot_pages w f m) n (f b)
  write_slot m b n e h =
      let fits = slot_fits w n (length m) h in
      let within : w * n + length b ≤ length m = omega arith in
      let m' = written m (w * n) b in
      let ps = slot_pages w f m in
      let len = length_written m b (w * n) within in
      let l = count_slots m in
      let l' : length (slot_pages w f m') ≡ slot_count w (length m) = count_slots m' ∙ ap (slot_count w) len in
      ext_get_or Gone (slot_pages w f m') (set ps n (f b))
      (l' ∙ sym (length-set ps n (f b) ∙ l))
      (λ k lt.
      let k< : k < slot_count w (length m) = omega arith in
      let here = page_slots m' k (rw len k<) in
      let old = page_slots m k k< in
      ⊎_elim
      (λ eq.
      let there : part (w * n) w m' ≡ b = ap (λ v. part (w * n) v m') (sym e) ∙ part_there m b (w * n) within in
      here ∙ (ap (λ i. f (part (w * i) w m')) eq ∙ (ap f there ∙ sym (ap (λ i. get_or (set ps n (f b)) i Gone) eq ∙ get_or-set_same ps n (f b) Gone (omega arith)))))
      (⊎_elim
      (λ below. here ∙ (ap f (part_below m b (w * n) within (w * k) w (apart w k n below)) ∙ (sym old ∙ sym (get_or-set_other ps n k (f b) Gone (omega arith)))))
      (λ above.
      let past : w * n + length b ≤ w * k = let a = apart w n k above in omega arith in
      here ∙ (ap f (part_above m b (w * n) within (w * k) w past) ∙ (sym old ∙ sym (get_or-set_other ps n k (f b) Gone (omega arith))))))
      (cases_order k n))

  -- pages that are whole slot by slot are whole
  pub sound_slot_by_slot : ((slot bytes : List ℕ) → length slot ≡ w → Bytes slot → f slot ≡ Live bytes → (length bytes ≡ 512) × Bytes bytes)
      → (m : List ℕ) → Bytes m → Sound (record { pages = slot_pages w f m })
  sound_slot_by_slot whole m bs =
      let l = count_slots m in
      record {
        has_at_most_65536_pages = omega arith;
        pages_have_512_bytes = λ n bytes e. (of m bs n bytes e).0;
        pages_hold_bytes = λ n bytes e. (of m bs n bytes e).1;
      }
    where
      of : (m : List ℕ) → Bytes m → (n : ℕ) (bytes : List ℕ) → get_or (slot_pages w f m) n Gone ≡ Live bytes → (length bytes ≡ 512) × Bytes bytes
      of m bs n bytes e =
          let l = count_slots m in
          let there : n < slot_count w (length m) = omega (arith, live_is_there (record { pages = slot_pages w f m }) n bytes e) in
          let fits = slot_fits w n (length m) there in
          let wide : length (part (w * n) w m) ≡ w = simp (length-take, length-drop) (omega arith) in
          whole (part (w * n) w m) bytes wide (All-take (λ x. x < 256) w (drop (w * n) m) (All-drop (λ x. x < 256) (w * n) m bs)) (sym (page_slots m n there) ∙ e)

-- and so are pages of slots that have a form
pub sound_slots : (w : ℕ) (f : List ℕ → Page) (g : List ℕ → List ℕ) → IsForm w f g → (m : List ℕ) → Bytes m → Sound (slots_meaning w f m)
sound_slots w f g form = sound_slot_by_slot w f (λ slot bytes l b e. (form.pages_have_512_bytes slot bytes l e, form.pages_hold_bytes slot bytes b e))

-- a read of a slot, by the page that it holds
module _ (w : ℕ) (f : List ℕ → Page) (m : List ℕ) (n : ℕ) (old : List ℕ) (h : length old ≡ 512) (l : n < slot_count w (length m)) where
  there : n < count_of (slots_meaning w f m)
  there = let c = count_slots w f m in omega arith

  pub slot_answers : (slot : List ℕ) → slot ≡ part (w * n) w m → (page : Page) → f slot ≡ page → found page n ≡ read_answer (slots_meaning w f m) n (length old)
  slot_answers slot e page is = read_answers (slots_meaning w f m) n old h there page (page_slots w f m n l ∙ (ap f (sym e) ∙ is))

  pub slot_fills : (slot : List ℕ) → slot ≡ part (w * n) w m → (page : Page) → f slot ≡ page → bytes_or page old ≡ after_read (slots_meaning w f m) n old
  slot_fills slot e page is = read_fills (slots_meaning w f m) n old h there page (page_slots w f m n l ∙ (ap f (sym e) ∙ is))

-- a page put into its slot
pub put_leaves : (w : ℕ) (f : List ℕ → Page) (g : List ℕ → List ℕ) → IsForm w f g → (m : List ℕ) (n : ℕ) (new : List ℕ) → length new ≡ 512 → Bytes new → n < slot_count w (length m)
    → slots_meaning w f (written m (w * n) (g new)) ≡ after_write (slots_meaning w f m) n new
put_leaves w f g form m n new h b l =
    let c = count_slots w f m in
    ap (λ (ps : List Page). record { pages = ps }) (write_slot w f m (g new) n (form.slots_have_the_width new h) l ∙ ap (set (slot_pages w f m) n) (form.gives_the_page_back new h b))
    ∙ write_leaves (slots_meaning w f m) n new h (omega arith)

pub put_writes : (w : ℕ) (f : List ℕ → Page) (g : List ℕ → List ℕ) (m : List ℕ) (n : ℕ) (new : List ℕ) → length new ≡ 512 → n < slot_count w (length m)
    → written m (w * n) (g new) ≡ slots_written w f g m n new
put_writes w f g m n new h l = let c = count_slots w f m in on_write (slots_meaning w f m) n new h (omega arith) (written m (w * n) (g new)) m
