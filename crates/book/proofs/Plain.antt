-- The plain book follows its lines, and stays a book.
use Rattle.std.proofs.Common.{◌≡◌, ℕ, suc, ◌+◌, ◌≤◌, Bool, true, false, cond, ◌⊎◌, List, [], ◌∷◌, length, None, refl, subst, inl, inr, arith}
use Rattle.std.specs.Ordering.{is_eq}
use Rattle.std.specs.List.{AllByRecursion}
use Rattle.std.proofs.lemmas.Bool.{cases_eq, true≢false}
use Rattle.refusals.specs.Refusals.{Accepted}
use Rattle.keys.specs.Kinds.{Kind, Field}
use Rattle.batches.specs.declared.line.Sign.{Sign}
use Rattle.batches.specs.declared.line.Sign.TheVariants.{Posting, Cancelling}
use Rattle.book.specs.Books.{Held, Keeping, Book, plain, count, has, no_postings, value_at, postings_of, PostingNumber, Postings, IsBook}
use Rattle.book.specs.Merging.{Booking, standing, applied, line_answer, line_taken, take_lines}
use Rattle.book.proofs.Counting.{one, one_le, one_other, has_yes, has_not, count_without, all_without}
use Rattle.book.proofs.Changes.{changed_all}
use Rattle.book.proofs.Bookings.{Sound}
use Rattle.book.proofs.Taking.{Follows, then_accepted, line_sorted, stands}

plain_clear : (ps : List ℕ) → no_postings ps ≡ true → ps ≡ []
plain_clear [] e = refl
plain_clear (p ∷ ps) e = cc

pub plain_follows : Follows plain
plain_follows = record {
  clear = plain_clear;
  none_counts = λ n. refl;
  posted_counts = λ n m ps. refl;
  cancelled_counts = λ n m ps h. count_without n m ps h;
}

-- what holds of the empty list and of every key's holds of any key's
pub value_all : {V : Type 0} (kind : Kind) (keeping : Keeping V) (P : V → Type 0) (key : Field) (list : List (Held V)) → P keeping.none → AllByRecursion (λ (h : Held V). P h.value) list → P (value_at kind keeping key list)
value_all kind keeping P key [] z a = z
value_all kind keeping P key (h ∷ rest) z a = go (is_eq (kind.order key h.key)) (value_all kind keeping P key rest z a.1)
  where
    go : (b : Bool) → P (value_at kind keeping key rest) → P (cond b h.value (value_at kind keeping key rest))
    go true ih = a.0
    go false ih = ih

-- a list of postings, or none
abbrev pub PostingsOrNone : List ℕ → Type 0
PostingsOrNone ps = ((n : ℕ) → count n ps ≤ 1) × AllByRecursion PostingNumber ps

pub all_weaken : {V : Type 0} (P Q : V → Type 0) → ((v : V) → P v → Q v) → (list : List (Held V)) → AllByRecursion (λ (h : Held V). P h.value) list → AllByRecursion (λ (h : Held V). Q h.value) list
all_weaken P Q f [] a = tt
all_weaken P Q f (h ∷ rest) a = (f h.value a.0, all_weaken P Q f rest a.1)

pub book_postings : (kind : Kind) (book : Book) (key : Field) → IsBook kind book → PostingsOrNone (postings_of kind book key)
book_postings kind book key b =
    value_all kind plain PostingsOrNone key book (λ n. omega arith, tt) (all_weaken Postings PostingsOrNone (λ ps h. (h.none_twice, h.are_posting_numbers)) book b.keys_hold_postings)

still_postings : (sign : Sign) (n at : ℕ) (ps : List ℕ) → PostingNumber n → PostingsOrNone ps → standing sign (has n ps) at ≡ Accepted tt → PostingsOrNone (applied plain sign n ps)
still_postings Posting n at ps h f e = (λ m. once m, (h, f.1))
  where
    zero' : count n ps ≡ 0
    zero' = has_not n ps (stands Posting (has n ps) at e)

    once : (m : ℕ) → one m n + count m ps ≤ 1
    once m = go (cases_eq m n)
      where
        go : (m ≡ n) ⊎ (m ≡ n → ⊥) → one m n + count m ps ≤ 1
        go (inl g) = let z : count m ps ≡ 0 = rw g zero' in omega (arith, one_le m n)
        go (inr g) = omega (arith, one_other m n g, f.0 m)
still_postings Cancelling n at ps h f e =
    (λ m. omega (arith, count_without m n ps (has_yes n ps (stands Cancelling (has n ps) at e)), f.0 m), all_without PostingNumber n ps f.1)

not_none : (ps : List ℕ) → no_postings ps ≡ false → 1 ≤ length ps
not_none [] e = absurd (true≢false e)
not_none (p ∷ ps) e = omega arith

line_book : (kind : Kind) (at : ℕ) (b : Booking) (book : Book) → Sound kind b → IsBook kind book → line_answer kind plain at b book ≡ Accepted tt → IsBook kind (line_taken kind plain b book)
line_book kind at b book s i e = record {
  keys_rise = line_sorted kind plain plain_follows b book s.0 i.keys_rise;
  keys_hold_postings =
      let still = still_postings b.sign b.number at (postings_of kind book b.key) s.1 (book_postings kind book b.key i) e in
      changed_all kind plain plain_clear (λ (h : Held (List ℕ)). Postings h.value) None b.key (applied plain b.sign b.number) book s.0 i.keys_rise
      (λ g. record { at_least_one = not_none (applied plain b.sign b.number (postings_of kind book b.key)) g; none_twice = still.0; are_posting_numbers = still.1 })
      i.keys_hold_postings;
}

pub lines_book : (kind : Kind) (at : ℕ) (bs : List Booking) (book after : Book) → AllByRecursion (Sound kind) bs → IsBook kind book → take_lines kind plain at bs book ≡ Accepted after → IsBook kind after
lines_book kind at [] book after s i e = let same : book ≡ after = cc in subst (IsBook kind) same i
lines_book kind at (b ∷ bs) book after s i e =
    let step = then_accepted (line_answer kind plain at b book) (take_lines kind plain (suc at) bs (line_taken kind plain b book)) after e in
    lines_book kind (suc at) bs (line_taken kind plain b book) after s.1 (line_book kind at b book s.0 i step.0) step.1

pub empty_book : (kind : Kind) → IsBook kind []
empty_book kind = record { keys_rise = tt; keys_hold_postings = tt }
