-- Merging a batch: what each line does, when it is refused, and the order of the refusals.
use Rattle.std.specs.Prelude.{ℕ, suc, ◌+◌, ◌*◌, Bool, true, false, cond, not, ◌&&◌, List, [], ◌∷◌, map, ◌==◌, nat_le}
use Rattle.std.specs.Ordering.{is_eq}
use Rattle.std.specs.List.{flat_map, AllByRecursion}
use Rattle.refusals.specs.Refusals.{Answer, Accepted, Refused, wants, and_then}
use Rattle.keys.specs.Kinds.{Kind, Field}
use Rattle.batches.specs.declared.line.Sign.{Sign}
use Rattle.batches.specs.declared.line.Sign.TheVariants.{Posting, Cancelling}
use Rattle.batches.specs.declared.line.Line.{Line}
use Rattle.batches.specs.Layout.{Row, Rising}
use Rattle.batches.specs.KeyCheck.{kind_and_keys_answer}
use Rattle.book.specs.Books.{Held, Keeping, has, value_at, changed}

-- a line under the key of its row
pub record Booking : Type 0 where
  pub key : Field
  pub sign : Sign
  pub number : ℕ

abbrev pub bookings_of : Row → List Booking
bookings_of row = map (λ (line : Line). record { key = row.key; sign = line.sign; number = line.number }) row.lines

-- all lines of a batch in order, each under its key
abbrev pub lines_under : List Row → List Booking
lines_under rows = flat_map bookings_of rows

-- a posting of a number that the key has gives 6, a cancelling of one that it lacks gives 7
abbrev pub standing : Sign → (there : Bool) → (at : ℕ) → Answer Unit
standing Posting there at = wants (not there) 6 at
standing Cancelling there at = wants there 7 at

abbrev pub applied : {V : Type 0} → Keeping V → Sign → ℕ → V → V
applied keeping Posting n value = keeping.posted n value
applied keeping Cancelling n value = keeping.cancelled n value

module _ {V : Type 0} (kind : Kind) (keeping : Keeping V) where
  -- what line `at` is answered on what is held
  abbrev pub line_answer : (at : ℕ) → Booking → List (Held V) → Answer Unit
  line_answer at b list = standing b.sign (has b.number (keeping.postings (value_at kind keeping b.key list))) at

  -- what it does
  abbrev pub line_taken : Booking → List (Held V) → List (Held V)
  line_taken b list = changed kind keeping b.key (applied keeping b.sign b.number) list

  -- lines in order, each on what those before it left
  abbrev pub take_lines : (at : ℕ) → List Booking → List (Held V) → Answer (List (Held V))
  take_lines at [] list = Accepted list
  take_lines at (b ∷ bs) list = and_then (line_answer at b list) (take_lines (suc at) bs (line_taken b list))

  -- lines judged one by one, each on what was held before all of them
  abbrev pub lines_answer : (at : ℕ) → List Booking → List (Held V) → Answer Unit
  lines_answer at [] list = Accepted tt
  lines_answer at (b ∷ bs) list = and_then (line_answer at b list) (lines_answer (suc at) bs list)

  -- what all lines together do
  abbrev pub lines_taken : List Booking → List (Held V) → List (Held V)
  lines_taken [] list = list
  lines_taken (b ∷ bs) list = lines_taken bs (line_taken b list)

abbrev pub is_posting : Sign → Bool
is_posting Posting = true
is_posting Cancelling = false

-- how many lines post
abbrev pub posting_lines : List Booking → ℕ
posting_lines [] = 0
posting_lines (b ∷ bs) = cond (is_posting b.sign) 1 0 + posting_lines bs

-- whether a line names a number under a key
abbrev pub names : Kind → Field → ℕ → Booking → Bool
names kind key n b = is_eq (kind.order key b.key) && n == b.number

-- how many lines post a number under a key
abbrev pub posts_of : Kind → Field → ℕ → List Booking → ℕ
posts_of kind key n [] = 0
posts_of kind key n (b ∷ bs) = cond (is_posting b.sign && names kind key n b) 1 0 + posts_of kind key n bs

-- how many cancel it
abbrev pub cancels_of : Kind → Field → ℕ → List Booking → ℕ
cancels_of kind key n [] = 0
cancels_of kind key n (b ∷ bs) = cond (not (is_posting b.sign) && names kind key n b) 1 0 + cancels_of kind key n bs

-- seven free pages for each posting line, else 8
abbrev pub pages_answer : (free lines : ℕ) → Answer Unit
pages_answer free lines = wants (nat_le (7 * lines) free) 8 0

-- an accepted answer that stands only if there are pages enough
abbrev pub if_pages : {A : Type 0} → (free lines : ℕ) → Answer A → Answer A
if_pages free lines (Accepted value) = and_then (pages_answer free lines) (Accepted value)
if_pages free lines (Refused number place) = Refused number place

-- a merge: kind and keys first, then the lines, then the pages; accepted, it gives what is then held
unfoldable pub merge_answer : {V : Type 0} → Kind → Keeping V → (free code : ℕ) → List Row → List (Held V) → Answer (List (Held V))
merge_answer kind keeping free code rows list =
    and_then (kind_and_keys_answer kind code rows) (if_pages free (posting_lines (lines_under rows)) (take_lines kind keeping 0 (lines_under rows) list))

-- the same answer before anything is done: every line is judged on what is held
unfoldable pub check_answer : {V : Type 0} → Kind → Keeping V → (free code : ℕ) → List Row → List (Held V) → Answer Unit
check_answer kind keeping free code rows list =
    and_then (kind_and_keys_answer kind code rows) (and_then (lines_answer kind keeping 0 (lines_under rows) list) (pages_answer free (posting_lines (lines_under rows))))

-- what is held after an answer: what it gives, and if refused what was held before
abbrev pub left : {A : Type 0} → Answer A → A → A
left (Accepted after) before = after
left (Refused number place) before = before

-- numbers rise within each row
abbrev pub RowsRise : List Row → Type 0
RowsRise rows = AllByRecursion (λ (row : Row). Rising 0 row.lines) rows
