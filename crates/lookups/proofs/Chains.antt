-- The walk along a chain. Assumes nothing.
use Rattle.std.proofs.Common.{◌≡◌, ℕ, ◌+◌, ◌≤◌, ◌⊎◌, List, [], ◌∷◌, length, Ok, Err, Result, sym, ap, ◌∙◌, subst, inl, inr, arith, length-append}
use Rattle.refusals.specs.declared.Refusal.{Refusal}
use Rattle.page_store.specs.Meanings.{Meaning}
use Rattle.nodes.specs.declared.records.Record.{Record}
use Rattle.nodes.specs.Layout.{RecordPage, record_image, RecordFits}
use Rattle.nodes.specs.Few.{items}
use Rattle.nodes.specs.Meanings.{record_of}
use Rattle.tree.specs.Trees.{RecordAt}
use Rattle.tree.specs.Valid.{head_of}
use Rattle.searching.specs.NodeReads.{NodeRead}
use Rattle.searching.specs.Chains.{record_in, ChainFrom}
use Rattle.searching.proofs.ReadValues.{read_value, read_never_refused}
use Rattle.lookups.specs.declared.pouring.ChainEnd.{ChainEnd}
use Rattle.lookups.specs.Pouring.{poured, postings_in, ChainPoured}
use Rattle.lookups.proofs.Pourings.{poured_append}

-- what is left of a chain, poured from here, gives what the whole chain gives from the start
pub record Left (m : Meaning) (records : List RecordAt) (place : ℕ) (list : List ℕ) (count page : ℕ) (end : ChainEnd) (now : List ℕ) : Type 0 where
  pub left : List RecordAt
  pub is_chained : ChainFrom m.pages page left
  pub counted : end.records + length left ≡ length records
  pub placed : end.place + length (postings_in left) ≡ place + length (postings_in records)
  pub written : poured end.place (postings_in left) now ≡ poured place (postings_in records) list

pub record Pouring (m : Meaning) (head place : ℕ) (list : List ℕ) (count page : ℕ) (end : ChainEnd) (now : List ℕ) : Type 0 where
  pub goes : (records : List RecordAt) → ChainFrom m.pages head records → length records ≤ count → Left m records place list count page end now

pub pouring_start : (m : Meaning) (head place : ℕ) (list : List ℕ) (count : ℕ) (end : ChainEnd) → end.records ≡ 0 → end.place ≡ place → Pouring m head place list count head end list
pouring_start m head place list count end none here =
    record {
      goes = λ records chain few.
          record { left = records; is_chained = chain; counted = omega (arith, none); placed = ap (λ (n : ℕ). n + length (postings_in records)) here; written = ap (λ (n : ℕ). poured n (postings_in records) list) here };
    }

module _ (m : Meaning) {records : List RecordAt} {place : ℕ} {list : List ℕ} {count page : ℕ} {end : ChainEnd} {now : List ℕ} where
  -- a page that is not 0 has a record
  pub record_is_read : (1 ≤ page) → {refusal : Refusal} {r : Result Record Refusal} → NodeRead record_image RecordFits record_of m page r → r ≡ Err refusal → Left m records place list count page end now → ⊥
  record_is_read some {refusal = refusal} {r = r} read e left = go left.left left.is_chained r read e
    where
      go : (rs : List RecordAt) → ChainFrom m.pages page rs → (r : Result Record Refusal) → NodeRead record_image RecordFits record_of m page r → r ≡ Err refusal → ⊥
      go [] chain r read e = omega arith
      go (first ∷ rest) chain (Ok x) read e = cc
      go (first ∷ rest) chain (Err other) read e = read_never_refused record_image RecordFits record_of m page (record_in first rest) chain.2 chain.3 other read

  pub left_more : (1 ≤ page) → {x : Record} {r : Result Record Refusal} → NodeRead record_image RecordFits record_of m page r → r ≡ Ok x → {postings : List ℕ} → postings ≡ items x.postings → (end' : ChainEnd) → end'.records ≡ end.records + 1 → end'.place ≡ end.place + length postings
      → {after : List ℕ} → after ≡ poured end.place postings now → Left m records place list count page end now → Left m records place list count x.next end' after
  left_more some {x = x} {r = r} read e {postings = postings} same_postings end' more further {after = after} wrote left = go left.left left.is_chained left.counted left.placed left.written r read e
    where
      go : (rs : List RecordAt) → ChainFrom m.pages page rs → end.records + length rs ≡ length records → end.place + length (postings_in rs) ≡ place + length (postings_in records) → poured end.place (postings_in rs) now ≡ poured place (postings_in records) list
          → (r : Result Record Refusal) → NodeRead record_image RecordFits record_of m page r → r ≡ Ok x → Left m records place list count x.next end' after
      go [] chain counted placed written r read e = absurd (omega arith)
      go (first ∷ rest) chain counted placed written (Err other) read e = cc
      go (first ∷ rest) chain counted placed written (Ok y) read e =
          let same : y ≡ x = cc in
          let is : record_of x ≡ record_in first rest = ap record_of (sym same) ∙ read_value record_image RecordFits record_of m page (record_in first rest) chain.2 chain.3 y read in
          let next : x.next ≡ head_of rest = ap (λ (v : RecordPage). v.next) is in
          let held : postings ≡ first.postings = same_postings ∙ ap (λ (v : RecordPage). v.postings) is in
          let many : length first.postings ≡ length postings = ap length (sym held) in
          let both = length-append first.postings (postings_in rest) in
          let there : end'.place ≡ end.place + length first.postings = omega arith in
          record {
            left = rest;
            is_chained = subst (λ (n : ℕ). ChainFrom m.pages n rest) (sym next) chain.4;
            counted = omega arith;
            placed = omega arith;
            written = ap (λ (n : ℕ). poured n (postings_in rest) after) there
                ∙ (ap (λ (xs : List ℕ). poured (end.place + length first.postings) (postings_in rest) xs) (wrote ∙ ap (λ (ps : List ℕ). poured end.place ps now) held)
                ∙ (sym (poured_append end.place first.postings (postings_in rest) now) ∙ written));
          }

  -- page 0 is the end, and a count of pages is enough to get there
  pub left_none : (page ≡ 0) ⊎ (count ≤ end.records) → length records ≤ count → Left m records place list count page end now → ChainPoured place records list end now
  left_none over few left = go over left.left left.is_chained left.counted left.placed left.written
    where
      done : end.records ≡ length records → end.place ≡ place + length (postings_in records) → now ≡ poured place (postings_in records) list → ChainPoured place records list end now
      done a b d = record { counts_every_record = a; ends_after_its_postings = b; writes_its_postings = d }

      go : (page ≡ 0) ⊎ (count ≤ end.records) → (rs : List RecordAt) → ChainFrom m.pages page rs → end.records + length rs ≡ length records → end.place + length (postings_in rs) ≡ place + length (postings_in records) → poured end.place (postings_in rs) now ≡ poured place (postings_in records) list → ChainPoured place records list end now
      go over [] chain counted placed written = done (omega arith) (omega arith) written
      go (inl none) (first ∷ rest) chain counted placed written = absurd (let some = chain.1 in omega arith)
      go (inr all) (first ∷ rest) chain counted placed written = absurd (omega arith)
