-- What a lookup writes into its list.
use Rattle.std.proofs.Common.{◌≡◌, ℕ, Bool, true, false, cond, List, ◌++◌, length, take, drop, Some, None, sym, refl, ap, ◌∙◌, arith}
use Rattle.refusals.specs.Refusals.{Accepted}
use Rattle.keys.specs.Kinds.{Kind, Field}
use Rattle.book.specs.Books.{value_at, postings_of}
use Rattle.book.specs.Looking.{Looked, shown, lookup_answer, list_after_lookup}
use Rattle.book.specs.Entries.{Entries, paged, postings_in, book_of}
use Rattle.book.proofs.Paged.{value_spelled}

pub some_cond : {X : Type 0} (b : Bool) (x y : X) → Some x ≡ cond b (Some y) None → (b ≡ true) × (x ≡ y)
some_cond true x y e = (refl, cc)
some_cond false x y e = let z : ◌≡◌ {A = ℕ} 0 1 = cc in absurd (omega arith)

pub looked_up : (kind : Kind) (entries : Entries) (key part : Field) (list ps after : List ℕ) (total written : ℕ) → kind.lawful key ≡ true → part ≡ key → ps ≡ postings_in (value_at kind paged part entries)
    → total ≡ length ps → written ≡ length (take (length list) ps) → after ≡ take (length list) ps ++ drop written list
    → (lookup_answer kind (book_of entries) key (length list) ≡ Accepted (record { total = total; written = written })) × (after ≡ list_after_lookup kind (book_of entries) key list)
looked_up kind entries key part list ps after total written lk same found t w a =
    (rw lk (ap (λ (x : Looked). Accepted x) numbers), rw lk (a ∙ (ap (λ (k : ℕ). take (length list) ps ++ drop k list) w ∙ ap (λ (xs : List ℕ). take (length list) xs ++ drop (length (take (length list) xs)) list) all)))
  where
    all : ps ≡ postings_of kind (book_of entries) key
    all = found ∙ (ap (λ (k : Field). postings_in (value_at kind paged k entries)) same ∙ value_spelled kind key entries)

    totals : length (postings_of kind (book_of entries) key) ≡ total
    totals = sym (t ∙ ap length all)

    writes : length (shown kind (book_of entries) key (length list)) ≡ written
    writes = sym (w ∙ ap (λ (xs : List ℕ). length (take (length list) xs)) all)

    numbers : ◌≡◌ {A = Looked} (record { total = length (postings_of kind (book_of entries) key); written = length (shown kind (book_of entries) key (length list)) }) (record { total = total; written = written })
    numbers = λ i. record { total = totals i; written = writes i }
