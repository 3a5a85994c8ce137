-- What a page store means, and what its calls answer and leave.
use Rattle.std.specs.Prelude.{◌≡◌, ℕ, ◌≤◌, cond, List, length, ◌==◌, nat_lt, slice_index_or, slice_set}
use Rattle.numbers.specs.BigEndian.{Bytes}
use Rattle.refusals.specs.Refusals.{Answer, Accepted, Refused, on_accepted}

-- a page is its bytes, or lost
pub data Page : Type 0 where
  Live : List ℕ → Page
  Gone : Page

-- what a store means: its pages, in order
pub record Meaning : Type 0 where
  pub pages : List Page

-- how many pages it has
abbrev pub count_of : Meaning → ℕ
count_of m = length m.pages

-- page n, and lost where there is none
abbrev pub page_at : Meaning → ℕ → Page
page_at m n = slice_index_or m.pages n Gone

-- the same with other bytes in page n, which is then not lost
abbrev pub with_page : Meaning → ℕ → List ℕ → Meaning
with_page m n bytes = record { pages = slice_set m.pages n (Live bytes) }

-- what every store owes: at most 65,536 pages, and 512 bytes in each that is not lost
pub record Sound (m : Meaning) : Type 0 where
  pub has_at_most_65536_pages : count_of m ≤ 65536
  pub pages_have_512_bytes : (n : ℕ) (bytes : List ℕ) → page_at m n ≡ Live bytes → length bytes ≡ 512
  pub pages_hold_bytes : (n : ℕ) (bytes : List ℕ) → page_at m n ≡ Live bytes → Bytes bytes

-- accepted, with nothing to tell
abbrev pub done : Answer Unit
done = Accepted tt

-- the answer of a call that names page n of so many and brings a buffer: first the buffer is looked at, then the number
abbrev pub reached : (count n len : ℕ) → Answer Unit → Answer Unit
reached count n len then = cond (len == 512) (cond (nat_lt n count) then (Refused 12 n)) (Refused 13 len)

abbrev pub found : Page → ℕ → Answer Unit
found (Live bytes) n = done
found Gone n = Refused 9 n

-- what read and write answer for page n and a buffer of len bytes
abbrev pub read_answer : Meaning → (n len : ℕ) → Answer Unit
read_answer m n len = reached (count_of m) n len (found (page_at m n) n)

abbrev pub write_answer : Meaning → (n len : ℕ) → Answer Unit
write_answer m n len = reached (count_of m) n len done

-- the bytes of a page, and others where it is lost
abbrev pub bytes_or : Page → List ℕ → List ℕ
bytes_or (Live bytes) others = bytes
bytes_or Gone others = others

-- the buffer after a read, and the meaning after a write
abbrev pub after_read : Meaning → ℕ → List ℕ → List ℕ
after_read m n buffer = on_accepted (read_answer m n (length buffer)) (bytes_or (page_at m n) buffer) buffer

abbrev pub after_write : Meaning → ℕ → List ℕ → Meaning
after_write m n buffer = on_accepted (write_answer m n (length buffer)) (with_page m n buffer) m
