-- The walk over a chain of records: what it keeps, and where it ends. Assumes nothing.
use Rattle.std.proofs.Common.{◌≡◌, ℕ, suc, ◌+◌, ◌<◌, ◌≤◌, true, List, [], ◌∷◌, ◌++◌, length, Ok, Err, Result, sym, refl, ap, ◌∙◌, subst, append_assoc, append-nil, arith}
use Rattle.std.specs.List.{flat_map}
use Rattle.std.proofs.lemmas.List.Concat.{flat_map-append}
use Rattle.refusals.specs.declared.Refusal.{Refusal}
use Rattle.page_store.specs.Meanings.{Meaning, count_of}
use Rattle.keys.specs.Kinds.{Field}
use Rattle.nodes.specs.declared.records.Record.{Record}
use Rattle.nodes.specs.Layout.{RecordPage, record_image, RecordFits}
use Rattle.nodes.specs.Few.{items}
use Rattle.nodes.specs.Meanings.{record_of}
use Rattle.book.specs.Looking.{Listed}
use Rattle.tree.specs.Trees.{RecordAt}
use Rattle.tree.specs.Valid.{Pages, head_of}
use Rattle.searching.specs.NodeReads.{NodeRead}
use Rattle.searching.specs.Chains.{record_in, ChainFrom}
use Rattle.listing.specs.Filling.{rows_of, is_past, filled}
use Rattle.listing.specs.Readable.{Stands, ReadableChain}
use Rattle.listing.specs.Walks.{rows_in_chain, RowsPut}
use Rattle.listing.proofs.ReadStanding.{read_is, read_is_ok}
use Rattle.listing.proofs.Filling.{rows_whole, filled_append}
use Rattle.listing.proofs.Putting.{rows_append, length_rows, put_none, put_on, past_leaves}

-- records that are passed, and others that are left
pub record Along (pages : Pages) (key : Field) (records : List RecordAt) (at skip : ℕ) (buffer : List ℕ) (step page next : ℕ) (now' : List ℕ) : Type 0 where
  pub passed : List RecordAt
  pub left : List RecordAt
  pub are_all : records ≡ passed ++ left
  pub left_start_there : ChainFrom pages page left
  pub left_end : step + length left < length pages
  pub passed_are_put : RowsPut (rows_in_chain key passed) at skip buffer next now'

pub record ChainSoFar (pages : Pages) (key : Field) (head at skip : ℕ) (buffer : List ℕ) (step page next : ℕ) (now' : List ℕ) : Type 0 where
  pub along : (records : List RecordAt) → ReadableChain pages head records → Along pages key records at skip buffer step page next now'

pub chain_start : {pages : Pages} {key : Field} {head at skip : ℕ} {buffer : List ℕ} → ChainSoFar pages key head at skip buffer 0 head at buffer
chain_start {at = at} {skip = skip} {buffer = buffer} =
    record {
      along = λ records readable.
          record { passed = []; left = records; are_all = refl; left_start_there = readable.starts_there; left_end = let few = readable.fewer_than_pages in omega arith; passed_are_put = put_none at skip buffer };
    }

rows_chain : (key : Field) (a b : List RecordAt) → rows_in_chain key (a ++ b) ≡ rows_in_chain key a ++ rows_in_chain key b
rows_chain key a b =
    ap (rows_of key) (flat_map-append (λ (r : RecordAt). r.postings) a b) ∙ rows_append key (flat_map (λ (r : RecordAt). r.postings) a) (flat_map (λ (r : RecordAt). r.postings) b)

module _ (m : Meaning) {key : Field} {head at skip : ℕ} {buffer : List ℕ} {step page next : ℕ} {now' : List ℕ} (sofar : ChainSoFar m.pages key head at skip buffer step page next now') where
  module _ {records : List RecordAt} (readable : ReadableChain m.pages head records) where
    here : Along m.pages key records at skip buffer step page next now'
    here = sofar.along records readable

    -- page 0 ends a chain
    none_left : (left : List RecordAt) → ChainFrom m.pages page left → page ≡ 0 → left ≡ []
    none_left [] chain e = refl
    none_left (r ∷ rest) chain e = absurd (let some = chain.1 in omega arith)

    pub chain_ends : page ≡ 0 → now' ≡ filled skip at (rows_in_chain key records) buffer
    chain_ends e =
        let all : records ≡ here.passed = here.are_all ∙ ap (λ (rs : List RecordAt). here.passed ++ rs) (none_left here.left here.left_start_there e) ∙ append-nil here.passed in
        here.passed_are_put.fills_the_buffer ∙ ap (λ (rs : List RecordAt). filled skip at (rows_in_chain key rs) buffer) (sym all)

    -- what is left is not shown
    pub chain_is_past : length key ≡ 24 → is_past skip (length now') next ≡ true → now' ≡ filled skip at (rows_in_chain key records) buffer
    chain_is_past long past =
        let passed = rows_in_chain key here.passed in
        let later = rows_in_chain key here.left in
        let put = here.passed_are_put in
        sym (past_leaves skip next later now' (rows_whole key (flat_map (λ (r : RecordAt). r.postings) here.left) long) past)
        ∙ ap (filled skip next later) put.fills_the_buffer
        ∙ ap (λ (n : ℕ). filled skip n later (filled skip at passed buffer)) put.counts_them
        ∙ sym (filled_append skip at passed later buffer)
        ∙ ap (λ (rows : List Listed). filled skip at rows buffer) (sym (rows_chain key here.passed here.left))
        ∙ ap (λ (rs : List RecordAt). filled skip at (rows_in_chain key rs) buffer) (sym here.are_all)

    -- a page other than 0 holds a record
    record First (left : List RecordAt) : Type 0 where
      pub first : RecordAt
      pub rest : List RecordAt
      pub is_it : left ≡ first ∷ rest
      pub stands : Stands record_image RecordFits m.pages page (record_in first rest)
      pub rest_start_there : ChainFrom m.pages (head_of rest) rest

    first_left : (left : List RecordAt) → ChainFrom m.pages page left → (page ≡ 0 → ⊥) → First left
    first_left [] chain some = absurd (some chain)
    first_left (r ∷ rest) chain some =
        record { first = r; rest = rest; is_it = refl; stands = record { not_on_page_0 = chain.1; is_held = chain.3; fits = chain.2 }; rest_start_there = chain.4 }

    module _ (some : page ≡ 0 → ⊥) where
      there : First here.left
      there = first_left here.left here.left_start_there some

      pub record_is_read : {refusal : Refusal} {r : Result Record Refusal} → NodeRead record_image RecordFits record_of m page r → r ≡ Err refusal → ⊥
      record_is_read {refusal = refusal} {r = r} read e = read_is_ok record_image RecordFits record_of m page (record_in there.first there.rest) there.stands refusal r read e

      along_more : (x : Record) (r : Result Record Refusal) → NodeRead record_image RecordFits record_of m page r → r ≡ Ok x
          → (postings : List ℕ) → postings ≡ items x.postings → (after : List ℕ) → after ≡ filled skip next (rows_of key postings) now'
          → Along m.pages key records at skip buffer (step + 1) x.next (next + length postings) after
      along_more x r read e postings same after put =
          let is : record_of x ≡ record_in there.first there.rest = read_is record_image RecordFits record_of m page (record_in there.first there.rest) there.stands x r read e in
          let held : postings ≡ there.first.postings = same ∙ ap (λ (p : RecordPage). p.postings) is in
          let rows : rows_of key postings ≡ rows_in_chain key (there.first ∷ []) = ap (rows_of key) (held ∙ sym (append-nil there.first.postings)) in
          let long : length (rows_in_chain key (there.first ∷ [])) ≡ length postings = ap length (sym rows) ∙ length_rows key postings in
          let size : length here.left ≡ suc (length there.rest) = ap length there.is_it in
          let few = here.left_end in
          record {
            passed = here.passed ++ (there.first ∷ []);
            left = there.rest;
            are_all = here.are_all ∙ ap (λ (rs : List RecordAt). here.passed ++ rs) there.is_it ∙ sym (append_assoc here.passed (there.first ∷ []) there.rest);
            left_start_there = subst (λ (n : ℕ). ChainFrom m.pages n there.rest) (sym (ap (λ (p : RecordPage). p.next) is)) there.rest_start_there;
            left_end = omega arith;
            passed_are_put =
                subst (λ (rows : List Listed). RowsPut rows at skip buffer (next + length postings) after) (sym (rows_chain key here.passed (there.first ∷ [])))
                (put_on (rows_in_chain key here.passed) (rows_in_chain key (there.first ∷ [])) at skip buffer next now' (next + length postings) after here.passed_are_put
                (record { counts_them = omega arith; fills_the_buffer = put ∙ ap (λ (rows : List Listed). filled skip next rows now') rows }));
          }

    -- as many records as pages are never left
    pub chain_never_so_long : count_of m ≤ step → ⊥
    chain_never_so_long past = let few = here.left_end in omega arith

  pub chain_more : (page ≡ 0 → ⊥) → {x : Record} {r : Result Record Refusal} → NodeRead record_image RecordFits record_of m page r → r ≡ Ok x
      → {postings : List ℕ} → postings ≡ items x.postings → {after : List ℕ} → after ≡ filled skip next (rows_of key postings) now'
      → ChainSoFar m.pages key head at skip buffer (step + 1) x.next (next + length postings) after
  chain_more some {x = x} {r = r} read e {postings = postings} same {after = after} put = record { along = λ records readable. along_more readable some x r read e postings same after put }
