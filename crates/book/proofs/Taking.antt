-- What lines do, over any way of keeping postings whose postings follow the signs.
use Rattle.std.proofs.Common.{◌≡◌, ℕ, suc, ◌+◌, ◌≤◌, Bool, true, false, not, ◌&&◌, eqb, leb, List, [], ◌∷◌, map, None, sym, refl, ap, ◌∙◌, arith}
use Rattle.std.specs.Ordering.{is_eq}
use Rattle.std.specs.List.{AllByRecursion}
use Rattle.std.proofs.lemmas.Bool.{true≢false, leb-true, leb-false, le-leb, lt-leb}
use Rattle.refusals.specs.Refusals.{Answer, Accepted, Refused, and_then}
use Rattle.keys.specs.Kinds.{Kind, Field}
use Rattle.batches.specs.declared.line.Sign.{Sign}
use Rattle.batches.specs.declared.line.Sign.TheVariants.{Posting, Cancelling}
use Rattle.batches.specs.Reversal.{other_sign}
use Rattle.book.specs.Books.{Held, Keeping, count, has, value_at, Sorted}
use Rattle.book.specs.Merging.{Booking, standing, applied, line_answer, line_taken, take_lines, lines_answer, lines_taken, is_posting, names, posts_of, cancels_of}
use Rattle.book.proofs.Counting.{one, has_yes, has_same}
use Rattle.book.proofs.Changes.{changed_sorted, changed_here, changed_elsewhere, equal_key, equal_from}
use Rattle.book.proofs.Bookings.{Once, Other, Sound, tally, counts_share, named, names_itself, at_most_once, reversed_booking}

-- what a way of keeping owes
pub record Follows {V : Type 0} (keeping : Keeping V) : Type 0 where
  pub clear : (v : V) → keeping.is_none v ≡ true → v ≡ keeping.none
  pub none_counts : (n : ℕ) → count n (keeping.postings keeping.none) ≡ 0
  pub posted_counts : (n m : ℕ) (v : V) → count n (keeping.postings (keeping.posted m v)) ≡ one n m + count n (keeping.postings v)
  pub cancelled_counts : (n m : ℕ) (v : V) → 1 ≤ count m (keeping.postings v) → count n (keeping.postings (keeping.cancelled m v)) + one n m ≡ count n (keeping.postings v)

-- answers one after another
pub then_accepted : {A : Type 0} (a : Answer Unit) (b : Answer A) (x : A) → and_then a b ≡ Accepted x → (a ≡ Accepted tt) × (b ≡ Accepted x)
then_accepted (Accepted tt) b x e = (refl, e)
then_accepted (Refused number place) b x e = let z : ◌≡◌ {A = ℕ} 0 1 = cc in absurd (omega arith)

pub then_assoc : {A : Type 0} (a b : Answer Unit) (d : Answer A) → and_then (and_then a b) d ≡ and_then a (and_then b d)
then_assoc (Accepted tt) b d = refl
then_assoc (Refused number place) b d = refl

-- how often a line's number stands, where the line is accepted
pub stands : (sign : Sign) (there : Bool) (at : ℕ) → standing sign there at ≡ Accepted tt → there ≡ not (is_posting sign)
stands Posting true at e = let z : ◌≡◌ {A = ℕ} 0 1 = cc in absurd (omega arith)
stands Posting false at e = refl
stands Cancelling true at e = refl
stands Cancelling false at e = let z : ◌≡◌ {A = ℕ} 0 1 = cc in absurd (omega arith)

stood : (sign : Sign) (at : ℕ) → standing sign (not (is_posting sign)) at ≡ Accepted tt
stood Posting at = refl
stood Cancelling at = refl

turned_fits : (sign : Sign) (before after posts cancels : ℕ) → leb 1 before ≡ not (is_posting sign) → before ≤ 1 → after + cancels ≡ before + posts → posts + cancels ≤ 1
    → tally (is_posting sign && true) ≤ posts → tally (not (is_posting sign) && true) ≤ cancels → leb 1 after ≡ not (is_posting (other_sign sign))
turned_fits Posting before after posts cancels f most balance once p q = le-leb 1 after (omega (arith, leb-false 1 before f))
turned_fits Cancelling before after posts cancels f most balance once p q = lt-leb 1 after (omega (arith, leb-true 1 before f))

module _ {V : Type 0} (kind : Kind) (keeping : Keeping V) (follows : Follows keeping) where
  -- how often a number stands under a key
  abbrev pub held : List (Held V) → Field → ℕ → ℕ
  held list key n = count n (keeping.postings (value_at kind keeping key list))

  -- one line's posting and one line's cancelling of a number
  applied_counts : (sign : Sign) (n m : ℕ) (v : V) (at : ℕ) → standing sign (has m (keeping.postings v)) at ≡ Accepted tt
      → count n (keeping.postings (applied keeping sign m v)) + tally (not (is_posting sign) && eqb n m) ≡ count n (keeping.postings v) + tally (is_posting sign && eqb n m)
  applied_counts Posting n m v at e = omega (arith, follows.posted_counts n m v)
  applied_counts Cancelling n m v at e = omega (arith, follows.cancelled_counts n m v (has_yes m (keeping.postings v) (stands Cancelling (has m (keeping.postings v)) at e)))

  pub line_sorted : (b : Booking) (list : List (Held V)) → kind.lawful b.key ≡ true → Sorted kind list → Sorted kind (line_taken kind keeping b list)
  line_sorted b list lb s = changed_sorted kind keeping follows.clear None b.key (applied keeping b.sign b.number) list tt lb refl s

  pub lines_sorted : (bs : List Booking) (list : List (Held V)) → AllByRecursion (Sound kind) bs → Sorted kind list → Sorted kind (lines_taken kind keeping bs list)
  lines_sorted [] list a s = s
  lines_sorted (b ∷ bs) list a s = lines_sorted bs (line_taken kind keeping b list) a.1 (line_sorted b list a.0.0 s)

  -- a line changes the count of its own key and number by one, and no other
  pub line_counts : (at : ℕ) (b : Booking) (list : List (Held V)) (key : Field) (n : ℕ) → kind.lawful key ≡ true → kind.lawful b.key ≡ true → Sorted kind list → line_answer kind keeping at b list ≡ Accepted tt
      → held (line_taken kind keeping b list) key n + tally (not (is_posting b.sign) && names kind key n b) ≡ held list key n + tally (is_posting b.sign && names kind key n b)
  line_counts at b list key n lk lb s e = go (is_eq (kind.order key b.key)) refl
    where
      f : V → V
      f = applied keeping b.sign b.number

      none_if : (sign : Sign) → (tally (not (is_posting sign) && false) ≡ 0) × (tally (is_posting sign && false) ≡ 0)
      none_if Posting = (refl, refl)
      none_if Cancelling = (refl, refl)

      go : (t : Bool) → is_eq (kind.order key b.key) ≡ t
          → held (line_taken kind keeping b list) key n + tally (not (is_posting b.sign) && (t && eqb n b.number)) ≡ held list key n + tally (is_posting b.sign && (t && eqb n b.number))
      go true t =
          let same = equal_from kind key b.key lk lb t in
          let here : value_at kind keeping key (line_taken kind keeping b list) ≡ f (value_at kind keeping b.key list) = rw same (changed_here kind keeping follows.clear None b.key f list lb s) in
          rw here (rw same (applied_counts b.sign n b.number (value_at kind keeping b.key list) at e))
      go false t =
          let apart : key ≡ b.key → ⊥ = λ g. true≢false (sym (equal_key kind key b.key lk g) ∙ t) in
          rw (changed_elsewhere kind keeping follows.clear None b.key key f list lb lk apart s) (omega (arith, none_if b.sign))

  pub lines_counts : (at : ℕ) (bs : List Booking) (list after : List (Held V)) (key : Field) (n : ℕ) → kind.lawful key ≡ true → AllByRecursion (Sound kind) bs → Sorted kind list → take_lines kind keeping at bs list ≡ Accepted after
      → held after key n + cancels_of kind key n bs ≡ held list key n + posts_of kind key n bs
  lines_counts at [] list after key n lk a s e = let same : after ≡ list = cc in rw same (omega arith)
  lines_counts at (b ∷ bs) list after key n lk a s e =
      let step = then_accepted (line_answer kind keeping at b list) (take_lines kind keeping (suc at) bs (line_taken kind keeping b list)) after e in
      omega (arith, line_counts at b list key n lk a.0.0 s step.0, lines_counts (suc at) bs (line_taken kind keeping b list) after key n lk a.1 (line_sorted b list a.0.0 s) step.1)

  -- what is then held is what all lines do
  pub taken_is : (at : ℕ) (bs : List Booking) (list after : List (Held V)) → take_lines kind keeping at bs list ≡ Accepted after → after ≡ lines_taken kind keeping bs list
  taken_is at [] list after e = cc
  taken_is at (b ∷ bs) list after e = taken_is (suc at) bs (line_taken kind keeping b list) after (then_accepted (line_answer kind keeping at b list) (take_lines kind keeping (suc at) bs (line_taken kind keeping b list)) after e).1

  -- a line leaves the answer of another as it was
  answer_same : (at : ℕ) (c b : Booking) (list : List (Held V)) (here : ℕ) → kind.lawful b.key ≡ true → kind.lawful c.key ≡ true → Other b c → Sorted kind list → line_answer kind keeping here b list ≡ Accepted tt
      → line_answer kind keeping at c (line_taken kind keeping b list) ≡ line_answer kind keeping at c list
  answer_same at c b list here lb lc o s e =
      ap (λ (t : Bool). standing c.sign t at) (has_same c.number (keeping.postings (value_at kind keeping c.key (line_taken kind keeping b list))) (keeping.postings (value_at kind keeping c.key list)) same)
    where
      unnamed : names kind c.key c.number b ≡ false
      unnamed = go (names kind c.key c.number b) refl
        where
          go : (t : Bool) → names kind c.key c.number b ≡ t → t ≡ false
          go true t = let both = named kind c.key c.number b lc lb t in absurd (o both.0 both.1)
          go false t = refl

      same : held (line_taken kind keeping b list) c.key c.number ≡ held list c.key c.number
      same = omega (arith, line_counts here b list c.key c.number lc lb s e, counts_share b.sign (names kind c.key c.number b), ap tally unnamed)

  answers_same : (at : ℕ) (bs : List Booking) (b : Booking) (list : List (Held V)) (here : ℕ) → kind.lawful b.key ≡ true → AllByRecursion (Other b) bs → Once kind bs → Sorted kind list → line_answer kind keeping here b list ≡ Accepted tt
      → lines_answer kind keeping at bs (line_taken kind keeping b list) ≡ lines_answer kind keeping at bs list
  answers_same at [] b list here lb a o s e = refl
  answers_same at (c ∷ bs) b list here lb a o s e =
      rw (answer_same at c b list here lb o.0 a.0 s e, answers_same (suc at) bs b list here lb a.1 o.2 s e)

  -- in sequence, or each line on what was held before: the same answer
  pub in_sequence : (at : ℕ) (bs : List Booking) (list : List (Held V)) → Once kind bs → Sorted kind list → take_lines kind keeping at bs list ≡ and_then (lines_answer kind keeping at bs list) (Accepted (lines_taken kind keeping bs list))
  in_sequence at [] list o s = refl
  in_sequence at (b ∷ bs) list o s = go (line_answer kind keeping at b list) refl (in_sequence (suc at) bs (line_taken kind keeping b list) o.2 (line_sorted b list o.0 s))
    where
      rest : List (Held V)
      rest = lines_taken kind keeping bs (line_taken kind keeping b list)

      go : (a : Answer Unit) → line_answer kind keeping at b list ≡ a → take_lines kind keeping (suc at) bs (line_taken kind keeping b list) ≡ and_then (lines_answer kind keeping (suc at) bs (line_taken kind keeping b list)) (Accepted rest)
          → and_then a (take_lines kind keeping (suc at) bs (line_taken kind keeping b list)) ≡ and_then (and_then a (lines_answer kind keeping (suc at) bs list)) (Accepted rest)
      go (Accepted tt) e ih = ih ∙ ap (λ (x : Answer Unit). and_then x (Accepted rest)) (answers_same (suc at) bs b list at o.0 o.1 o.2 s e)
      go (Refused number place) e ih = refl

  -- each line is accepted as it stands
  abbrev pub Fits : List (Held V) → Booking → Type 0
  Fits list b = has b.number (keeping.postings (value_at kind keeping b.key list)) ≡ not (is_posting b.sign)

  pub lines_fit : (at : ℕ) (bs : List Booking) (list : List (Held V)) → lines_answer kind keeping at bs list ≡ Accepted tt → AllByRecursion (Fits list) bs
  lines_fit at [] list e = tt
  lines_fit at (b ∷ bs) list e =
      let step = then_accepted (line_answer kind keeping at b list) (lines_answer kind keeping (suc at) bs list) tt e in
      (stands b.sign (has b.number (keeping.postings (value_at kind keeping b.key list))) at step.0, lines_fit (suc at) bs list step.1)

  pub fit_lines : (at : ℕ) (bs : List Booking) (list : List (Held V)) → AllByRecursion (Fits list) bs → lines_answer kind keeping at bs list ≡ Accepted tt
  fit_lines at [] list a = refl
  fit_lines at (b ∷ bs) list a = rw (ap (λ (t : Bool). standing b.sign t at) a.0 ∙ stood b.sign at) (fit_lines (suc at) bs list a.1)

  -- a batch's lines accepted in turn fit what was held before
  pub taken_fit : (at : ℕ) (bs : List Booking) (list after : List (Held V)) → Once kind bs → Sorted kind list → take_lines kind keeping at bs list ≡ Accepted after → AllByRecursion (Fits list) bs
  taken_fit at bs list after o s e =
      lines_fit at bs list (then_accepted (lines_answer kind keeping at bs list) (Accepted (lines_taken kind keeping bs list)) after (sym (in_sequence at bs list o s) ∙ e)).0

  pub fit_taken : (at : ℕ) (bs : List Booking) (list : List (Held V)) → Once kind bs → Sorted kind list → AllByRecursion (Fits list) bs → take_lines kind keeping at bs list ≡ Accepted (lines_taken kind keeping bs list)
  fit_taken at bs list o s a = in_sequence at bs list o s ∙ ap (λ (x : Answer Unit). and_then x (Accepted (lines_taken kind keeping bs list))) (fit_lines at bs list a)

  -- the reversed lines fit what the lines left
  reversed_fit : (bs : List Booking) (list after : List (Held V)) → Once kind bs → AllByRecursion (Sound kind) bs
      → ((key : Field) (n : ℕ) → kind.lawful key ≡ true → held list key n ≤ 1)
      → ((key : Field) (n : ℕ) → kind.lawful key ≡ true → held after key n + cancels_of kind key n bs ≡ held list key n + posts_of kind key n bs)
      → (zs : List Booking) → ((key : Field) (n : ℕ) → (posts_of kind key n zs ≤ posts_of kind key n bs) × (cancels_of kind key n zs ≤ cancels_of kind key n bs)) → AllByRecursion (Sound kind) zs → AllByRecursion (Fits list) zs → AllByRecursion (Fits after) (map reversed_booking zs)
  reversed_fit bs list after o sound most balance [] part a f = tt
  reversed_fit bs list after o sound most balance (z ∷ zs) part a f = (
    turned_fits z.sign (held list z.key z.number) (held after z.key z.number) (posts_of kind z.key z.number bs) (cancels_of kind z.key z.number bs) f.0
        (most z.key z.number a.0.0) (balance z.key z.number a.0.0) (at_most_once kind z.key z.number bs a.0.0 o)
        (own (part z.key z.number).0 (names_itself kind z a.0.0)) (own' (part z.key z.number).1 (names_itself kind z a.0.0)),
    reversed_fit bs list after o sound most balance zs (λ key n. omega (arith, part key n)) a.1 f.1,
  )
    where
      own : posts_of kind z.key z.number (z ∷ zs) ≤ posts_of kind z.key z.number bs → names kind z.key z.number z ≡ true → tally (is_posting z.sign && true) ≤ posts_of kind z.key z.number bs
      own h e = omega (arith, ap (λ (t : Bool). tally (is_posting z.sign && t)) e)

      own' : cancels_of kind z.key z.number (z ∷ zs) ≤ cancels_of kind z.key z.number bs → names kind z.key z.number z ≡ true → tally (not (is_posting z.sign) && true) ≤ cancels_of kind z.key z.number bs
      own' h e = omega (arith, ap (λ (t : Bool). tally (not (is_posting z.sign) && t)) e)

  pub reversal_fits : (bs : List Booking) (list after : List (Held V)) → Once kind bs → AllByRecursion (Sound kind) bs → Sorted kind list
      → ((key : Field) (n : ℕ) → kind.lawful key ≡ true → held list key n ≤ 1) → take_lines kind keeping 0 bs list ≡ Accepted after → AllByRecursion (Fits after) (map reversed_booking bs)
  reversal_fits bs list after o sound s most e =
      reversed_fit bs list after o sound most (λ key n lk. lines_counts 0 bs list after key n lk sound s e) bs (λ key n. omega arith) sound (taken_fit 0 bs list after o s e)
