-- Memory as pages: slots of equal width, 512 bytes in a flat store and 516 in a sealed one.
use Rattle.std.specs.Prelude.{◌≡◌, ℕ, ◌<◌, ◌+◌, ◌*◌, ◌/◌, min, Bool, true, false, cond, List, [], ◌∷◌, ◌++◌, map, length, take, drop, ◌==◌}
use Rattle.std.specs.List.{range_with_len}
use Rattle.numbers.specs.BigEndian.{Bytes, number_of, bytes_of, part, written}
use Rattle.refusals.specs.Refusals.{on_accepted}
use Rattle.page_store.specs.Meanings.{Page, Live, Gone, Meaning, write_answer}

-- how many whole slots lie in so many bytes, cut to 65,536
abbrev pub slot_count : (width len : ℕ) → ℕ
slot_count width len = min (len / width) 65536

-- a memory as pages: slot n is the bytes from width × n on, and each slot is read by one rule
unfoldable pub slot_pages : (width : ℕ) → (List ℕ → Page) → List ℕ → List Page
slot_pages width page_of memory = map (λ n. page_of (part (width * n) width memory)) (range_with_len 0 (slot_count width (length memory)))

abbrev pub slots_meaning : (width : ℕ) → (List ℕ → Page) → List ℕ → Meaning
slots_meaning width page_of memory = record { pages = slot_pages width page_of memory }

-- the memory after a write of page n: that slot's bytes are others, all else is as it was
abbrev pub slots_written : (width : ℕ) → (List ℕ → Page) → (List ℕ → List ℕ) → List ℕ → ℕ → List ℕ → List ℕ
slots_written width page_of slot_of memory n buffer =
    on_accepted (write_answer (slots_meaning width page_of memory) n (length buffer)) (written memory (width * n) (slot_of buffer)) memory

-- what makes a width, the page of a slot and the slot of a page a form: slots are as wide and pages as long as they are to be, and what was put in comes back
pub record IsForm (width : ℕ) (page_of : List ℕ → Page) (slot_of : List ℕ → List ℕ) : Type 0 where
  pub has_a_width : 0 < width
  pub pages_have_512_bytes : (slot bytes : List ℕ) → length slot ≡ width → page_of slot ≡ Live bytes → length bytes ≡ 512
  pub pages_hold_bytes : (slot bytes : List ℕ) → Bytes slot → page_of slot ≡ Live bytes → Bytes bytes
  pub slots_have_the_width : (page : List ℕ) → length page ≡ 512 → length (slot_of page) ≡ width
  pub gives_the_page_back : (page : List ℕ) → length page ≡ 512 → Bytes page → page_of (slot_of page) ≡ Live page

-- a flat store: a slot is a page
abbrev pub flat_meaning : List ℕ → Meaning
flat_meaning memory = slots_meaning 512 Live memory

abbrev pub flat_written : List ℕ → ℕ → List ℕ → List ℕ
flat_written memory n buffer = slots_written 512 Live (λ page. page) memory n buffer

-- the sum of (i + 1) × byte i, counted from byte i on
abbrev pub seal_from : ℕ → List ℕ → ℕ
seal_from i [] = 0
seal_from i (byte ∷ bytes) = (i + 1) * byte + seal_from (i + 1) bytes

abbrev pub seal : List ℕ → ℕ
seal page = seal_from 0 page

-- a sealed store: a slot is a page and four bytes of seal, and the page is lost if they disagree
abbrev pub sealed_slot : List ℕ → List ℕ
sealed_slot page = page ++ bytes_of 4 (seal page)

unfoldable pub sealed_page : List ℕ → Page
sealed_page slot = cond (number_of (drop 512 slot) == seal (take 512 slot)) (Live (take 512 slot)) Gone

abbrev pub is_live : Page → Bool
is_live (Live bytes) = true
is_live Gone = false

abbrev pub sealed_meaning : List ℕ → Meaning
sealed_meaning memory = slots_meaning 516 sealed_page memory

abbrev pub sealed_written : List ℕ → ℕ → List ℕ → List ℕ
sealed_written memory n buffer = slots_written 516 sealed_page sealed_slot memory n buffer
