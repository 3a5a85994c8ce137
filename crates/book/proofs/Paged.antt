-- Entries follow their lines, keep to the sizes, and spell the book.
use Rattle.std.proofs.Common.{◌≡◌, ℕ, suc, ◌*◌, ◌≤◌, Bool, true, false, cond, ◌&&◌, ltb, leb, List, [], ◌∷◌, ◌++◌, length, None, Ordering, Less, Equal, Greater, sym, refl, ap, ◌∙◌, arith}
use Rattle.std.specs.Ordering.{is_eq}
use Rattle.std.specs.List.{flat_map, AllByRecursion}
use Rattle.std.proofs.lemmas.Bool.{true≢false, and_parts, ltb-true, ltb-false, leb-true}
use Rattle.std.proofs.lemmas.List.{append_assoc, length-append}
use Rattle.refusals.specs.Refusals.{Answer, Accepted, Refused, wants, and_then}
use Rattle.keys.specs.Kinds.{Kind, Field}
use Rattle.batches.specs.KeyCheck.{kind_and_keys_answer}
use Rattle.batches.specs.declared.line.Sign.{Sign}
use Rattle.batches.specs.declared.line.Sign.TheVariants.{Posting, Cancelling}
use Rattle.book.specs.Books.{Held, Book, plain, by_order, count, has, without, no_postings, value_at, put, changed, Sorted}
use Rattle.book.specs.Merging.{Booking, lines_under, applied, line_answer, line_taken, take_lines, posting_lines, if_pages, merge_answer}
use Rattle.book.specs.Entries.{Entry, Entries, postings_in, no_records, is_empty, moved, posted_in, kept, without_in, cancelled_in, paged, book_of, Sizes, EntryFits, EntriesFit}
use Rattle.book.specs.Laws.{spelled, EntriesMergeAsTheirBook, EntriesStayFitting}
use Rattle.book.proofs.Counting.{has_yes, has_not, count_without, without_front, without_back, length_without_le}
use Rattle.book.proofs.Changes.{changed_all}
use Rattle.book.proofs.Bookings.{accepted_keys, lawful_lines}
use Rattle.book.proofs.Taking.{Follows, then_accepted, line_sorted}
use Rattle.book.proofs.Plain.{value_all, all_weaken}
use Rattle.book.proofs.Merges.{merged}

no_postings_is_empty : (ps : List ℕ) → no_postings ps ≡ true → ps ≡ []
no_postings_is_empty [] e = refl
no_postings_is_empty (p ∷ ps) e = cc

no_records_is_empty : (rs : List (List ℕ)) → no_records rs ≡ true → rs ≡ []
no_records_is_empty [] e = refl
no_records_is_empty (r ∷ rs) e = cc

pub paged_clear : (entry : Entry) → is_empty entry ≡ true → entry ≡ paged.none
paged_clear entry e =
    let both = and_parts (no_postings entry.inline) (no_records entry.records) e in
    let inline : entry.inline ≡ [] = no_postings_is_empty entry.inline both.0 in
    let records : entry.records ≡ [] = no_records_is_empty entry.records both.1 in
    λ i. record { inline = inline i; records = records i }

abbrev chained : List (List ℕ) → List ℕ
chained rs = flat_map (λ (r : List ℕ). r) rs

moved_chain : (three : List ℕ) (rs : List (List ℕ)) → chained (moved three rs) ≡ three ++ chained rs
moved_chain three [] = refl
moved_chain three (head ∷ rest) = go (leb (length head) 57)
  where
    go : (b : Bool) → chained (cond b ((three ++ head) ∷ rest) (three ∷ head ∷ rest)) ≡ three ++ (head ++ chained rest)
    go true = append_assoc three head (chained rest)
    go false = refl

-- a posting goes in front of all others
pub postings_posted : (n : ℕ) (entry : Entry) → postings_in (posted_in n entry) ≡ n ∷ postings_in entry
postings_posted n entry = go (ltb (length entry.inline) 3)
  where
    go : (b : Bool) → postings_in (cond b (record { inline = n ∷ entry.inline; records = entry.records }) (record { inline = n ∷ []; records = moved entry.inline entry.records })) ≡ n ∷ postings_in entry
    go true = refl
    go false = ap (λ (ps : List ℕ). n ∷ ps) (moved_chain entry.inline entry.records)

kept_chain : (r : List ℕ) (rs : List (List ℕ)) → chained (kept r rs) ≡ r ++ chained rs
kept_chain [] rs = refl
kept_chain (p ∷ ps) rs = refl

without_chain : (n : ℕ) (rs : List (List ℕ)) → chained (without_in n rs) ≡ without n (chained rs)
without_chain n [] = refl
without_chain n (r ∷ rs) = go (has n r) refl (without_chain n rs)
  where
    go : (b : Bool) → has n r ≡ b → chained (without_in n rs) ≡ without n (chained rs) → chained (cond b (kept (without n r) rs) (r ∷ without_in n rs)) ≡ without n (r ++ chained rs)
    go true e ih = kept_chain (without n r) rs ∙ sym (without_front n r (chained rs) (has_yes n r e))
    go false e ih = ap (λ (ps : List ℕ). r ++ ps) ih ∙ sym (without_back n r (chained rs) (has_not n r e))

-- a cancelled one is taken out of all
pub postings_cancelled : (n : ℕ) (entry : Entry) → postings_in (cancelled_in n entry) ≡ without n (postings_in entry)
postings_cancelled n entry = go (has n entry.inline) refl
  where
    go : (b : Bool) → has n entry.inline ≡ b
        → postings_in (cond b (record { inline = without n entry.inline; records = entry.records }) (record { inline = entry.inline; records = without_in n entry.records })) ≡ without n (postings_in entry)
    go true e = sym (without_front n entry.inline (chained entry.records) (has_yes n entry.inline e))
    go false e = ap (λ (ps : List ℕ). entry.inline ++ ps) (without_chain n entry.records) ∙ sym (without_back n entry.inline (chained entry.records) (has_not n entry.inline e))

pub paged_follows : Follows paged
paged_follows = record {
  clear = paged_clear;
  none_counts = λ n. refl;
  posted_counts = λ n m entry. ap (count n) (postings_posted m entry);
  cancelled_counts = λ n m entry h. rw (postings_cancelled m entry) (count_without n m (postings_in entry) h);
}

-- a line's effect on an entry and on its postings
pub postings_applied : (sign : Sign) (n : ℕ) (entry : Entry) → postings_in (applied paged sign n entry) ≡ applied plain sign n (postings_in entry)
postings_applied Posting n entry = postings_posted n entry
postings_applied Cancelling n entry = postings_cancelled n entry

-- sizes
abbrev RecordFits : List ℕ → Type 0
RecordFits r = (1 ≤ length r) × (length r ≤ 60)

moved_fits : (three : List ℕ) (rs : List (List ℕ)) → 3 ≤ length three → length three ≤ 3 → AllByRecursion RecordFits rs → AllByRecursion RecordFits (moved three rs)
moved_fits three [] l m a = ((omega arith, omega arith), tt)
moved_fits three (head ∷ rest) l m a = go (leb (length head) 57) refl
  where
    go : (b : Bool) → leb (length head) 57 ≡ b → AllByRecursion RecordFits (cond b ((three ++ head) ∷ rest) (three ∷ head ∷ rest))
    go true e = let short = leb-true (length head) 57 e in ((rw (length-append three head) (omega arith), rw (length-append three head) (omega arith)), a.1)
    go false e = ((omega arith, omega arith), a)

posted_sizes : (n : ℕ) (entry : Entry) → Sizes entry → Sizes (posted_in n entry)
posted_sizes n entry s = go (ltb (length entry.inline) 3) refl
  where
    go : (b : Bool) → ltb (length entry.inline) 3 ≡ b → Sizes (cond b (record { inline = n ∷ entry.inline; records = entry.records }) (record { inline = n ∷ []; records = moved entry.inline entry.records }))
    go true e = record { at_most_3_inline = omega (arith, ltb-true (length entry.inline) 3 e); records_hold_1_to_60 = s.records_hold_1_to_60 }
    go false e = record { at_most_3_inline = omega arith; records_hold_1_to_60 = moved_fits entry.inline entry.records (ltb-false (length entry.inline) 3 e) s.at_most_3_inline s.records_hold_1_to_60 }

kept_fits : (r : List ℕ) (rs : List (List ℕ)) → length r ≤ 60 → AllByRecursion RecordFits rs → AllByRecursion RecordFits (kept r rs)
kept_fits [] rs h a = a
kept_fits (p ∷ ps) rs h a = ((omega arith, h), a)

without_fits : (n : ℕ) (rs : List (List ℕ)) → AllByRecursion RecordFits rs → AllByRecursion RecordFits (without_in n rs)
without_fits n [] a = tt
without_fits n (r ∷ rs) a = go (has n r) (without_fits n rs a.1)
  where
    go : (b : Bool) → AllByRecursion RecordFits (without_in n rs) → AllByRecursion RecordFits (cond b (kept (without n r) rs) (r ∷ without_in n rs))
    go true ih = kept_fits (without n r) rs (omega (arith, length_without_le n r, a.0)) a.1
    go false ih = (a.0, ih)

cancelled_sizes : (n : ℕ) (entry : Entry) → Sizes entry → Sizes (cancelled_in n entry)
cancelled_sizes n entry s = go (has n entry.inline)
  where
    go : (b : Bool) → Sizes (cond b (record { inline = without n entry.inline; records = entry.records }) (record { inline = entry.inline; records = without_in n entry.records }))
    go true = record { at_most_3_inline = omega (arith, length_without_le n entry.inline, s.at_most_3_inline); records_hold_1_to_60 = s.records_hold_1_to_60 }
    go false = record { at_most_3_inline = s.at_most_3_inline; records_hold_1_to_60 = without_fits n entry.records s.records_hold_1_to_60 }

pub applied_sizes : (sign : Sign) (n : ℕ) (entry : Entry) → Sizes entry → Sizes (applied paged sign n entry)
applied_sizes Posting n entry s = posted_sizes n entry s
applied_sizes Cancelling n entry s = cancelled_sizes n entry s

none_sizes : Sizes paged.none
none_sizes = record { at_most_3_inline = omega arith; records_hold_1_to_60 = tt }

-- an entry within the sizes is empty exactly if it has no posting
empty_is_none : (inline : List ℕ) (records : List (List ℕ)) → AllByRecursion RecordFits records → no_postings (inline ++ chained records) ≡ (no_postings inline && no_records records)
empty_is_none [] [] a = refl
empty_is_none [] ([] ∷ rs) a = absurd (omega (arith, a.0))
empty_is_none [] ((p ∷ ps) ∷ rs) a = refl
empty_is_none (p ∷ ps) rs a = refl

has_some : (ps : List ℕ) → no_postings ps ≡ false → 1 ≤ length ps
has_some [] e = absurd (true≢false e)
has_some (p ∷ ps) e = omega arith

pub not_empty_fits : (entry : Entry) → Sizes entry → is_empty entry ≡ false → EntryFits entry
not_empty_fits entry s e = record { sizes = s; at_least_one = has_some (postings_in entry) (empty_is_none entry.inline entry.records s.records_hold_1_to_60 ∙ e) }

-- what stands under a key, spelled
pub value_spelled : (kind : Kind) (key : Field) (entries : Entries) → postings_in (value_at kind paged key entries) ≡ value_at kind plain key (book_of entries)
value_spelled kind key [] = refl
value_spelled kind key (h ∷ rest) = go (is_eq (kind.order key h.key)) (value_spelled kind key rest)
  where
    go : (b : Bool) → postings_in (value_at kind paged key rest) ≡ value_at kind plain key (book_of rest) → postings_in (cond b h.value (value_at kind paged key rest)) ≡ cond b (postings_in h.value) (value_at kind plain key (book_of rest))
    go true ih = refl
    go false ih = ih

module _ (kind : Kind) (key : Field) (f : Entry → Entry) (g : List ℕ → List ℕ) (same : (entry : Entry) → postings_in (f entry) ≡ g (postings_in entry)) (keeps : (entry : Entry) → Sizes entry → Sizes (f entry)) where
  put_spelled : (entry : Entry) (rest : Entries) → Sizes entry → book_of (put paged key (f entry) rest) ≡ put plain key (g (postings_in entry)) (book_of rest)
  put_spelled entry rest s = rw (← same entry, empty_is_none (f entry).inline (f entry).records (keeps entry s).records_hold_1_to_60) (go (is_empty (f entry)))
    where
      go : (b : Bool) → book_of (cond b rest (record { key = key; value = f entry } ∷ rest)) ≡ cond b (book_of rest) (record { key = key; value = postings_in (f entry) } ∷ book_of rest)
      go true = refl
      go false = refl

  changed_spelled : (entries : Entries) → AllByRecursion (λ (h : Held Entry). Sizes h.value) entries → book_of (changed kind paged key f entries) ≡ changed kind plain key g (book_of entries)
  changed_spelled [] a = put_spelled paged.none [] none_sizes
  changed_spelled (h ∷ rest) a = go (kind.order key h.key) (changed_spelled rest a.1)
    where
      go : (o : Ordering) → book_of (changed kind paged key f rest) ≡ changed kind plain key g (book_of rest)
          → book_of (by_order o (put paged key (f paged.none) (h ∷ rest)) (put paged key (f h.value) rest) (h ∷ changed kind paged key f rest))
          ≡ by_order o (put plain key (g []) (book_of (h ∷ rest))) (put plain key (g (postings_in h.value)) (book_of rest)) (record { key = h.key; value = postings_in h.value } ∷ changed kind plain key g (book_of rest))
      go Less ih = put_spelled paged.none (h ∷ rest) none_sizes
      go Equal ih = put_spelled h.value rest a.0
      go Greater ih = ap (λ (b : Book). record { key = h.key; value = postings_in h.value } ∷ b) ih

all_sizes : (entries : Entries) → EntriesFit entries → AllByRecursion (λ (h : Held Entry). Sizes h.value) entries
all_sizes entries a = all_weaken EntryFits Sizes (λ entry f. f.sizes) entries a

line_spelled : (kind : Kind) (b : Booking) (entries : Entries) → EntriesFit entries → book_of (line_taken kind paged b entries) ≡ line_taken kind plain b (book_of entries)
line_spelled kind b entries a =
    changed_spelled kind b.key (applied paged b.sign b.number) (applied plain b.sign b.number) (postings_applied b.sign b.number) (applied_sizes b.sign b.number) entries (all_sizes entries a)

line_fitting : (kind : Kind) (b : Booking) (entries : Entries) → kind.lawful b.key ≡ true → Sorted kind entries → EntriesFit entries → EntriesFit (line_taken kind paged b entries)
line_fitting kind b entries lb s a =
    changed_all kind paged paged_clear (λ (h : Held Entry). EntryFits h.value) None b.key (applied paged b.sign b.number) entries lb s
    (λ e. not_empty_fits (applied paged b.sign b.number (value_at kind paged b.key entries))
    (applied_sizes b.sign b.number (value_at kind paged b.key entries) (value_all kind paged Sizes b.key entries none_sizes (all_sizes entries a))) e)
    a

abbrev LawfulKeys : Kind → List Booking → Type 0
LawfulKeys kind bs = AllByRecursion (λ (b : Booking). kind.lawful b.key ≡ true) bs

lines_spelled : (kind : Kind) (at : ℕ) (bs : List Booking) (entries : Entries) → LawfulKeys kind bs → Sorted kind entries → EntriesFit entries → spelled (take_lines kind paged at bs entries) ≡ take_lines kind plain at bs (book_of entries)
lines_spelled kind at [] entries l s a = refl
lines_spelled kind at (b ∷ bs) entries l s a =
    rw (← value_spelled kind b.key entries, ← line_spelled kind b entries a)
    (go (line_answer kind paged at b entries) (lines_spelled kind (suc at) bs (line_taken kind paged b entries) l.1 (line_sorted kind paged paged_follows b entries l.0 s) (line_fitting kind b entries l.0 s a)))
  where
    go : (x : Answer Unit) → spelled (take_lines kind paged (suc at) bs (line_taken kind paged b entries)) ≡ take_lines kind plain (suc at) bs (book_of (line_taken kind paged b entries))
        → spelled (and_then x (take_lines kind paged (suc at) bs (line_taken kind paged b entries))) ≡ and_then x (take_lines kind plain (suc at) bs (book_of (line_taken kind paged b entries)))
    go (Accepted tt) ih = ih
    go (Refused number place) ih = refl

lines_fitting : (kind : Kind) (at : ℕ) (bs : List Booking) (entries after : Entries) → LawfulKeys kind bs → Sorted kind entries → EntriesFit entries → take_lines kind paged at bs entries ≡ Accepted after → Sorted kind after × EntriesFit after
lines_fitting kind at [] entries after l s a e = let same : entries ≡ after = cc in rw (← same) (s, a)
lines_fitting kind at (b ∷ bs) entries after l s a e =
    let step = then_accepted (line_answer kind paged at b entries) (take_lines kind paged (suc at) bs (line_taken kind paged b entries)) after e in
    lines_fitting kind (suc at) bs (line_taken kind paged b entries) after l.1 (line_sorted kind paged paged_follows b entries l.0 s) (line_fitting kind b entries l.0 s a) step.1

pub entries_stay_fitting : EntriesStayFitting
entries_stay_fitting kind free code rows entries after s a e =
    let m = merged kind paged free code rows entries after e in
    lines_fitting kind 0 (lines_under rows) entries after (lawful_lines kind None rows m.keys_are_rising) s a m.lines_are_taken

pages_spelled : (free lines : ℕ) (x : Answer Entries) → spelled (if_pages free lines x) ≡ if_pages free lines (spelled x)
pages_spelled free lines (Accepted entries) = go (leb (7 * lines) free)
  where
    go : (b : Bool) → spelled (and_then (wants b 8 0) (Accepted entries)) ≡ and_then (wants b 8 0) (Accepted (book_of entries))
    go true = refl
    go false = refl
pages_spelled free lines (Refused number place) = refl

pub entries_merge : EntriesMergeAsTheirBook
unfolding merge_answer
entries_merge kind free code rows entries s a = go (kind_and_keys_answer kind code rows) refl
  where
    lines : List Booking
    lines = lines_under rows

    go : (x : Answer Unit) → kind_and_keys_answer kind code rows ≡ x
        → spelled (and_then x (if_pages free (posting_lines lines) (take_lines kind paged 0 lines entries))) ≡ and_then x (if_pages free (posting_lines lines) (take_lines kind plain 0 lines (book_of entries)))
    go (Accepted tt) e =
        pages_spelled free (posting_lines lines) (take_lines kind paged 0 lines entries)
        ∙ ap (λ (x : Answer Book). if_pages free (posting_lines lines) x) (lines_spelled kind 0 lines entries (lawful_lines kind None rows (accepted_keys kind code rows e).1) s a)
    go (Refused number place) e = refl
