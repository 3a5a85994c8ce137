-- A batch that is judged by the entries of a valid tree is judged by the book that they spell. Assumes nothing.
use Rattle.std.proofs.Common.{◌≡◌, ℕ, ◌*◌, Bool, true, false, leb, ◌⊎◌, List, sym, refl, ap, ◌∙◌, subst, inl, inr}
use Rattle.std.proofs.lemmas.Bool.{eqb-true}
use Rattle.refusals.specs.Refusals.{Answer, Accepted, Refused, wants, and_then}
use Rattle.refusals.proofs.Answering.{never_both}
use Rattle.keys.specs.Kinds.{Kind}
use Rattle.batches.specs.Reading.{kind_code, rows_in}
use Rattle.batches.specs.Opening.{open_answer}
use Rattle.book.specs.Books.{Book, plain}
use Rattle.book.specs.Merging.{lines_under, lines_taken, pages_answer, merge_answer, check_answer}
use Rattle.book.specs.Entries.{Entries, paged, book_of}
use Rattle.book.specs.Laws.{spelled, AcceptedOn}
use Rattle.book.proofs.Merges.{merged as taken-apart, checked_before}
use Rattle.book.proofs.Paged.{paged_follows, entries_merge}
use Rattle.book.proofs.Plain.{plain_follows}
use Rattle.book.proofs.Taking.{taken_is}
use Rattle.tree.specs.Valid.{Pages, Valid}
use Rattle.calls.specs.Merges.{merged}
use Rattle.calls.proofs.Spelled.{entries_sorted, entries_fit}
use Rattle.calls.proofs.Reversing.{rows_rise}

module _ (kind : Kind) (batch : List ℕ) (opened : open_answer batch ≡ Accepted tt) (pages : Pages) (entries : Entries) (valid : Valid kind pages entries) (free : ℕ) where
  -- a merge into the spelled book is the check of the entries, and then the spelled result
  pub merged_as_book : merge_answer kind plain free (kind_code batch) (rows_in batch) (book_of entries) ≡ spelled (and_then (check_answer kind paged free (kind_code batch) (rows_in batch) entries) (Accepted (merged kind batch entries)))
  merged_as_book =
      sym (entries_merge kind free (kind_code batch) (rows_in batch) entries (entries_sorted kind pages entries valid) (entries_fit kind pages entries valid))
      ∙ ap spelled (checked_before paged paged_follows kind free (kind_code batch) (rows_in batch) entries (rows_rise batch opened) (entries_sorted kind pages entries valid))

  module _ (accepted : check_answer kind paged free (kind_code batch) (rows_in batch) entries ≡ Accepted tt) where
    taken : merge_answer kind plain free (kind_code batch) (rows_in batch) (book_of entries) ≡ Accepted (book_of (merged kind batch entries))
    taken = merged_as_book ∙ ap (λ (answer : Answer Unit). spelled (and_then answer (Accepted (merged kind batch entries)))) accepted

    pub accepted_kind : kind_code batch ≡ kind.code
    accepted_kind = eqb-true (kind_code batch) kind.code (taken-apart kind plain free (kind_code batch) (rows_in batch) (book_of entries) (book_of (merged kind batch entries)) taken).kind_fits

    -- the entries after the batch spell the book after it
    pub merged_book : book_of (merged kind batch entries) ≡ lines_taken kind plain (lines_under (rows_in batch)) (book_of entries)
    merged_book =
        taken_is kind plain plain_follows 0 (lines_under (rows_in batch)) (book_of entries) (book_of (merged kind batch entries))
        (taken-apart kind plain free (kind_code batch) (rows_in batch) (book_of entries) (book_of (merged kind batch entries)) taken).lines_are_taken

    pub accepted_on : (book : Book) → book_of entries ≡ book → AcceptedOn kind (rows_in batch) book
    accepted_on book spells = record {
      free = free;
      numbers_rise = rows_rise batch opened;
      is_accepted =
          ap (λ (code : ℕ). merge_answer kind plain free code (rows_in batch) book) (sym accepted_kind)
          ∙ subst (λ (b : Book). merge_answer kind plain free (kind_code batch) (rows_in batch) b ≡ Accepted (lines_taken kind plain (lines_under (rows_in batch)) b)) spells (taken ∙ ap Accepted merged_book);
    }

-- an answer that only pages can refuse
pub only_for_pages : (check : Answer Unit) (free lines : ℕ) (entries : Entries) (book : Book) → spelled (and_then check (Accepted entries)) ≡ and_then (pages_answer free lines) (Accepted book)
    → ((check ≡ Accepted tt) × (book_of entries ≡ book)) ⊎ (check ≡ Refused 8 0)
only_for_pages (Accepted tt) free lines entries book e = go (leb (7 * lines) free) e
  where
    go : (b : Bool) → ◌≡◌ {A = Answer Book} (Accepted (book_of entries)) (and_then (wants b 8 0) (Accepted book)) → ((◌≡◌ {A = Answer Unit} (Accepted tt) (Accepted tt)) × (book_of entries ≡ book)) ⊎ (◌≡◌ {A = Answer Unit} (Accepted tt) (Refused 8 0))
    go true e = inl (refl, cc)
    go false e = absurd (never_both (book_of entries) 8 0 e)
only_for_pages (Refused number place) free lines entries book e = go (leb (7 * lines) free) e
  where
    go : (b : Bool) → ◌≡◌ {A = Answer Book} (Refused number place) (and_then (wants b 8 0) (Accepted book)) → ((◌≡◌ {A = Answer Unit} (Refused number place) (Accepted tt)) × (book_of entries ≡ book)) ⊎ (◌≡◌ {A = Answer Unit} (Refused number place) (Refused 8 0))
    go true e = absurd (never_both book number place (sym e))
    go false e = let n : number ≡ 8 = cc in let p : place ≡ 0 = cc in inr (rw (n, p))
