-- The lines of a batch under their keys: keys and numbers rise, so each key and number occurs once.
use Rattle.std.proofs.Common.{◌≡◌, ℕ, suc, ◌+◌, ◌<◌, ◌≤◌, Bool, true, false, cond, not, ◌&&◌, eqb, List, [], ◌∷◌, ◌++◌, map, Some, None, Option, sym, refl, ap, ◌∙◌, arith}
use Rattle.std.specs.Ordering.{is_eq}
use Rattle.std.specs.List.{AllByRecursion}
use Rattle.std.proofs.lemmas.Bool.{true≢false, and_parts, eqb-true, eq-eqb}
use Rattle.std.proofs.ByRecursion.{All-append, All-weaker}
use Rattle.refusals.specs.Refusals.{Accepted, wants, and_then}
use Rattle.keys.specs.Kinds.{Kind, Field, below}
use Rattle.keys.proofs.Orders.{below_transitive, below_irreflexive}
use Rattle.batches.specs.declared.line.Sign.{Sign}
use Rattle.batches.specs.declared.line.Sign.TheVariants.{Posting, Cancelling}
use Rattle.batches.specs.declared.line.Line.{Line}
use Rattle.batches.specs.Layout.{Row, Rising}
use Rattle.batches.specs.KeyCheck.{above, keys_answer, kind_and_keys_answer}
use Rattle.batches.specs.Reversal.{other_sign, reversed_line, reversed_row}
use Rattle.book.specs.Books.{PostingNumber}
use Rattle.book.specs.Merging.{Booking, bookings_of, lines_under, is_posting, names, posts_of, cancels_of, RowsRise}
use Rattle.book.proofs.Changes.{equal_key, equal_from}

-- the keys of rows rise, as the check of a batch accepts them
abbrev pub KeysRise : Kind → Option Field → List Row → Type 0
KeysRise kind before [] = Unit {0}
KeysRise kind before (row ∷ rows) = (kind.lawful row.key ≡ true) × (above kind before row.key ≡ true) × KeysRise kind (Some row.key) rows

pub keys_rise : (kind : Kind) (at : ℕ) (before : Option Field) (rows : List Row) → keys_answer kind at before rows ≡ Accepted tt → KeysRise kind before rows
keys_rise kind at before [] e = tt
keys_rise kind at before (row ∷ rows) e = go (kind.lawful row.key && above kind before row.key) refl e (λ g. keys_rise kind (suc at) (Some row.key) rows g)
  where
    go : (b : Bool) → (kind.lawful row.key && above kind before row.key) ≡ b → and_then (wants b 4 at) (keys_answer kind (suc at) (Some row.key) rows) ≡ Accepted tt
        → (keys_answer kind (suc at) (Some row.key) rows ≡ Accepted tt → KeysRise kind (Some row.key) rows) → KeysRise kind before (row ∷ rows)
    go true t e ih = let both = and_parts (kind.lawful row.key) (above kind before row.key) t in (both.0, both.1, ih e)
    go false t e ih = let z : ◌≡◌ {A = ℕ} 0 1 = cc in absurd (omega arith)

pub rise_keys : (kind : Kind) (at : ℕ) (before : Option Field) (rows : List Row) → KeysRise kind before rows → keys_answer kind at before rows ≡ Accepted tt
rise_keys kind at before [] k = refl
rise_keys kind at before (row ∷ rows) k = rw (k.0, k.1) (rise_keys kind (suc at) (Some row.key) rows k.2)

-- a batch whose kind and keys are accepted
pub accepted_keys : (kind : Kind) (code : ℕ) (rows : List Row) → kind_and_keys_answer kind code rows ≡ Accepted tt → (eqb code kind.code ≡ true) × KeysRise kind None rows
accepted_keys kind code rows e = go (eqb code kind.code) refl e
  where
    go : (b : Bool) → eqb code kind.code ≡ b → and_then (wants b 3 0) (keys_answer kind 0 None rows) ≡ Accepted tt → (eqb code kind.code ≡ true) × KeysRise kind None rows
    go true t e = (t, keys_rise kind 0 None rows e)
    go false t e = let z : ◌≡◌ {A = ℕ} 0 1 = cc in absurd (omega arith)

-- a line that names another key or another number
abbrev pub Other : Booking → Booking → Type 0
Other b c = c.key ≡ b.key → c.number ≡ b.number → ⊥

-- each key and number once, all keys lawful
abbrev pub Once : Kind → List Booking → Type 0
Once kind [] = Unit {0}
Once kind (b ∷ bs) = (kind.lawful b.key ≡ true) × AllByRecursion (Other b) bs × Once kind bs

abbrev booking : Field → Line → Booking
booking key line = record { key = key; sign = line.sign; number = line.number }

later_numbers : (key : Field) (low : ℕ) (lines : List Line) → Rising low lines → AllByRecursion (λ (b : Booking). low < b.number) (map (booking key) lines)
later_numbers key low [] r = tt
later_numbers key low (line ∷ lines) r =
    (r.0, All-weaker (λ (b : Booking). line.number < b.number) (λ (b : Booking). low < b.number) (λ b h. omega arith) (map (booking key) lines) (later_numbers key line.number lines r.2))

once_row : (kind : Kind) (key : Field) (low : ℕ) (lines : List Line) (later : List Booking) → kind.lawful key ≡ true → Rising low lines
    → AllByRecursion (λ (b : Booking). b.key ≡ key → ⊥) later → Once kind later → Once kind (map (booking key) lines ++ later)
once_row kind key low [] later lk r apart o = o
once_row kind key low (line ∷ lines) later lk r apart o = (
  lk,
  All-append (Other (booking key line)) (map (booking key) lines) later
      (All-weaker (λ (b : Booking). line.number < b.number) (Other (booking key line)) (λ b h e f. omega arith) (map (booking key) lines) (later_numbers key line.number lines r.2))
      (All-weaker (λ (b : Booking). b.key ≡ key → ⊥) (Other (booking key line)) (λ b h e f. h e) later apart),
  once_row kind key line.number lines later lk r.2 apart o,
)

above_row : (kind : Kind) (low key : Field) (lines : List Line) → below kind low key ≡ true → AllByRecursion (λ (b : Booking). below kind low b.key ≡ true) (map (booking key) lines)
above_row kind low key [] h = tt
above_row kind low key (line ∷ lines) h = (h, above_row kind low key lines h)

above_rows : (kind : Kind) (low bound : Field) (rows : List Row) → kind.lawful low ≡ true → kind.lawful bound ≡ true → ((c : Field) → kind.lawful c ≡ true → below kind bound c ≡ true → below kind low c ≡ true)
    → KeysRise kind (Some bound) rows → AllByRecursion (λ (b : Booking). below kind low b.key ≡ true) (lines_under rows)
above_rows kind low bound [] ll lb up k = tt
above_rows kind low bound (row ∷ rows) ll lb up k =
    let here = up row.key k.0 k.1 in
    All-append (λ (b : Booking). below kind low b.key ≡ true) (bookings_of row) (lines_under rows) (above_row kind low row.key row.lines here)
    (above_rows kind low row.key rows ll k.0 (λ c lc h. below_transitive kind low row.key c ll k.0 lc here h) k.2)

-- in a batch each key and number occurs once
pub once_rows : (kind : Kind) (before : Option Field) (rows : List Row) → KeysRise kind before rows → RowsRise rows → Once kind (lines_under rows)
once_rows kind before [] k r = tt
once_rows kind before (row ∷ rows) k r =
    once_row kind row.key 0 row.lines (lines_under rows) k.0 r.0
    (All-weaker (λ (b : Booking). below kind row.key b.key ≡ true) (λ (b : Booking). b.key ≡ row.key → ⊥)
    (λ b h e. let self : below kind row.key row.key ≡ true = rw e at h in true≢false (sym self ∙ below_irreflexive kind row.key k.0))
    (lines_under rows)
    (above_rows kind row.key row.key rows k.0 k.0 (λ c lc h. h) k.2))
    (once_rows kind (Some row.key) rows k.2 r.1)

lawful_row : (kind : Kind) (key : Field) (lines : List Line) → kind.lawful key ≡ true → AllByRecursion (λ (b : Booking). kind.lawful b.key ≡ true) (map (booking key) lines)
lawful_row kind key [] lk = tt
lawful_row kind key (line ∷ lines) lk = (lk, lawful_row kind key lines lk)

pub lawful_lines : (kind : Kind) (before : Option Field) (rows : List Row) → KeysRise kind before rows → AllByRecursion (λ (b : Booking). kind.lawful b.key ≡ true) (lines_under rows)
lawful_lines kind before [] k = tt
lawful_lines kind before (row ∷ rows) k =
    All-append (λ (b : Booking). kind.lawful b.key ≡ true) (bookings_of row) (lines_under rows) (lawful_row kind row.key row.lines k.0) (lawful_lines kind (Some row.key) rows k.2)

-- lines with lawful keys and posting numbers
abbrev pub Sound : Kind → Booking → Type 0
Sound kind b = (kind.lawful b.key ≡ true) × PostingNumber b.number

sound_row : (kind : Kind) (key : Field) (low : ℕ) (lines : List Line) → kind.lawful key ≡ true → Rising low lines → AllByRecursion (Sound kind) (map (booking key) lines)
sound_row kind key low [] lk r = tt
sound_row kind key low (line ∷ lines) lk r = ((lk, (omega arith, r.1)), sound_row kind key line.number lines lk r.2)

pub sound_rows : (kind : Kind) (before : Option Field) (rows : List Row) → KeysRise kind before rows → RowsRise rows → AllByRecursion (Sound kind) (lines_under rows)
sound_rows kind before [] k r = tt
sound_rows kind before (row ∷ rows) k r =
    All-append (Sound kind) (bookings_of row) (lines_under rows) (sound_row kind row.key 0 row.lines k.0 r.0) (sound_rows kind (Some row.key) rows k.2 r.1)

-- the reversal
abbrev pub reversed_booking : Booking → Booking
reversed_booking b = record { key = b.key; sign = other_sign b.sign; number = b.number }

reversed_row_bookings : (key : Field) (lines : List Line) (rest rest' : List Booking) → rest' ≡ map reversed_booking rest → map (booking key) (map reversed_line lines) ++ rest' ≡ map reversed_booking (map (booking key) lines ++ rest)
reversed_row_bookings key [] rest rest' e = e
reversed_row_bookings key (line ∷ lines) rest rest' e = ap (λ (bs : List Booking). reversed_booking (booking key line) ∷ bs) (reversed_row_bookings key lines rest rest' e)

pub reversed_rows : (rows : List Row) → lines_under (map reversed_row rows) ≡ map reversed_booking (lines_under rows)
reversed_rows [] = refl
reversed_rows (row ∷ rows) = reversed_row_bookings row.key row.lines (lines_under rows) (lines_under (map reversed_row rows)) (reversed_rows rows)

pub reversed_keys : (kind : Kind) (before : Option Field) (rows : List Row) → KeysRise kind before rows → KeysRise kind before (map reversed_row rows)
reversed_keys kind before [] k = tt
reversed_keys kind before (row ∷ rows) k = (k.0, k.1, reversed_keys kind (Some row.key) rows k.2)

reversed_rising : (low : ℕ) (lines : List Line) → Rising low lines → Rising low (map reversed_line lines)
reversed_rising low [] r = tt
reversed_rising low (line ∷ lines) r = (r.0, r.1, reversed_rising line.number lines r.2)

pub reversed_rise : (rows : List Row) → RowsRise rows → RowsRise (map reversed_row rows)
reversed_rise [] r = tt
reversed_rise (row ∷ rows) r = (reversed_rising 0 row.lines r.0, reversed_rise rows r.1)

abbrev pub tally : Bool → ℕ
tally t = cond t 1 0

turned_signs : (sign : Sign) (t : Bool) → (tally (is_posting (other_sign sign) && t) ≡ tally (not (is_posting sign) && t)) × (tally (not (is_posting (other_sign sign)) && t) ≡ tally (is_posting sign && t))
turned_signs Posting t = (refl, refl)
turned_signs Cancelling t = (refl, refl)

pub reversed_counts : (kind : Kind) (key : Field) (n : ℕ) (bs : List Booking) → (posts_of kind key n (map reversed_booking bs) ≡ cancels_of kind key n bs) × (cancels_of kind key n (map reversed_booking bs) ≡ posts_of kind key n bs)
reversed_counts kind key n [] = (refl, refl)
reversed_counts kind key n (b ∷ bs) = omega (arith, turned_signs b.sign (names kind key n b), reversed_counts kind key n bs)

-- a line counts for one of the two where it names the key and number, else for none
pub counts_share : (sign : Sign) (t : Bool) → tally (is_posting sign && t) + tally (not (is_posting sign) && t) ≡ tally t
counts_share Posting true = refl
counts_share Posting false = refl
counts_share Cancelling true = refl
counts_share Cancelling false = refl

pub names_itself : (kind : Kind) (b : Booking) → kind.lawful b.key ≡ true → names kind b.key b.number b ≡ true
names_itself kind b lk = rw (equal_key kind b.key b.key lk refl) (eq-eqb b.number b.number refl)

pub named : (kind : Kind) (key : Field) (n : ℕ) (b : Booking) → kind.lawful key ≡ true → kind.lawful b.key ≡ true → names kind key n b ≡ true → (key ≡ b.key) × (n ≡ b.number)
named kind key n b lk lb e =
    let both = and_parts (is_eq (kind.order key b.key)) (eqb n b.number) e in
    (equal_from kind key b.key lk lb both.0, eqb-true n b.number both.1)

unnamed : (kind : Kind) (b : Booking) (key : Field) (n : ℕ) (bs : List Booking) → kind.lawful key ≡ true → key ≡ b.key → n ≡ b.number → AllByRecursion (Other b) bs → Once kind bs → posts_of kind key n bs + cancels_of kind key n bs ≡ 0
unnamed kind b key n [] lk e f a o = refl
unnamed kind b key n (c ∷ bs) lk e f a o = go (names kind key n c) refl (unnamed kind b key n bs lk e f a.1 o.2)
  where
    go : (t : Bool) → names kind key n c ≡ t → posts_of kind key n bs + cancels_of kind key n bs ≡ 0 → posts_of kind key n (c ∷ bs) + cancels_of kind key n (c ∷ bs) ≡ 0
    go true t ih = let same = named kind key n c lk o.0 t in absurd (a.0 (sym same.0 ∙ e) (sym same.1 ∙ f))
    go false t ih = omega (arith, counts_share c.sign (names kind key n c), ap tally t)

-- a key and number is named at most once
pub at_most_once : (kind : Kind) (key : Field) (n : ℕ) (bs : List Booking) → kind.lawful key ≡ true → Once kind bs → posts_of kind key n bs + cancels_of kind key n bs ≤ 1
at_most_once kind key n [] lk o = omega arith
at_most_once kind key n (b ∷ bs) lk o = go (names kind key n b) refl (at_most_once kind key n bs lk o.2)
  where
    go : (t : Bool) → names kind key n b ≡ t → posts_of kind key n bs + cancels_of kind key n bs ≤ 1 → posts_of kind key n (b ∷ bs) + cancels_of kind key n (b ∷ bs) ≤ 1
    go true t ih =
        let same = named kind key n b lk o.0 t in
        omega (arith, counts_share b.sign (names kind key n b), ap tally t, unnamed kind b key n bs lk same.0 same.1 o.1 o.2)
    go false t ih = omega (arith, counts_share b.sign (names kind key n b), ap tally t)
