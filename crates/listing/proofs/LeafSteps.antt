-- The walk over the entries of a leaf: what it keeps, and where it ends. Assumes nothing.
use Rattle.std.proofs.Common.{◌≡◌, ℕ, ◌+◌, ◌≤◌, true, false, cond, List, [], ◌∷◌, ◌++◌, map, length, drop, None, Ok, Err, Result, sym, refl, ap, ◌∙◌, subst, append_assoc, append-nil}
use Rattle.std.specs.List.{AllByRecursion}
use Rattle.std.specs.declared.ops.ControlFlow.TheVariants.{Continue, Break}
use Rattle.std.proofs.lemmas.List.{drop_all}
use Rattle.std.proofs.lemmas.Result.{MatchResult-at_ok, MatchResult-at_err}
use Rattle.refusals.specs.declared.Refusal.{Refusal}
use Rattle.keys.specs.Kinds.{Kind, Field, below}
use Rattle.nodes.specs.Layout.{LeafEntry, LeafPage}
use Rattle.book.specs.Looking.{Listed, within}
use Rattle.tree.specs.Trees.{EntryAt, Leaf}
use Rattle.tree.specs.Valid.{Pages, head_of, entry_in, Rise}
use Rattle.tree.proofs.Everywhere.{all_back}
use Rattle.listing.specs.Readable.{leaf_page, ReadableChain, ReadableLeaf}
use Rattle.listing.specs.Walks.{rows_at, listed_at, RowsPut, EntryWalked, LeafPassed}
use Rattle.listing.proofs.Putting.{put_none, put_on}
use Rattle.listing.proofs.InRange.{keys_at, listed_append, not_below_first, between, later_none, rise_back}

-- a leaf that is asked for the rows of keys from one to another
pub record Asked (kind : Kind) (pages : Pages) (page : LeafPage) (first second : Field) (leaf : Leaf) : Type 0 where
  pub is_it : page ≡ leaf_page leaf
  pub readable : ReadableLeaf pages leaf
  pub rising : Rise kind None (keys_at leaf.entries)
  pub second_lawful : kind.lawful second ≡ true

-- entries that are passed, and others that are left
pub record Along (kind : Kind) (page : LeafPage) (first second : Field) (entries : List EntryAt) (at skip : ℕ) (buffer : List ℕ) (i next : ℕ) (now' : List ℕ) : Type 0 where
  pub passed : List EntryAt
  pub left : List EntryAt
  pub are_all : entries ≡ passed ++ left
  pub are_left : drop i page.entries ≡ map entry_in left
  pub passed_are_put : RowsPut (listed_at kind first second passed) at skip buffer next now'

pub record LeafSoFar (kind : Kind) (pages : Pages) (page : LeafPage) (first second : Field) (at skip : ℕ) (buffer : List ℕ) (i next : ℕ) (now' : List ℕ) : Type 0 where
  pub along : (leaf : Leaf) → Asked kind pages page first second leaf → Along kind page first second leaf.entries at skip buffer i next now'

pub leaf_start : {kind : Kind} {pages : Pages} {page : LeafPage} {first second : Field} {at skip : ℕ} {buffer : List ℕ} → LeafSoFar kind pages page first second at skip buffer 0 at buffer
leaf_start {at = at} {skip = skip} {buffer = buffer} =
    record {
      along = λ leaf asked.
          record { passed = []; left = leaf.entries; are_all = refl; are_left = ap (λ (p : LeafPage). p.entries) asked.is_it; passed_are_put = put_none at skip buffer };
    }

-- the first of the entries that are left
record First (left : List EntryAt) (y : LeafEntry) (ys : List LeafEntry) : Type 0 where
  pub entry : EntryAt
  pub rest : List EntryAt
  pub is_it : left ≡ entry ∷ rest
  pub reads_as : y ≡ entry_in entry
  pub rest_read_as : ys ≡ map entry_in rest

first_left : (left : List EntryAt) (y : LeafEntry) (ys : List LeafEntry) → y ∷ ys ≡ map entry_in left → First left y ys
first_left [] y ys e = cc
first_left (entry ∷ rest) y ys e = record { entry = entry; rest = rest; is_it = refl; reads_as = cc; rest_read_as = cc }

module _ {kind : Kind} {pages : Pages} {page : LeafPage} {first second : Field} {at skip : ℕ} {buffer : List ℕ} {i next : ℕ} {now' : List ℕ} (sofar : LeafSoFar kind pages page first second at skip buffer i next now') where
  module _ {y : LeafEntry} (there : drop i page.entries ≡ y ∷ drop (i + 1) page.entries) where
    module _ {leaf : Leaf} (asked : Asked kind pages page first second leaf) where
      here : Along kind page first second leaf.entries at skip buffer i next now'
      here = sofar.along leaf asked

      front : First here.left y (drop (i + 1) page.entries)
      front = first_left here.left y (drop (i + 1) page.entries) (sym there ∙ here.are_left)

      same_key : y.key ≡ front.entry.key
      same_key = ap (λ (e : LeafEntry). e.key) front.reads_as

      whole : leaf.entries ≡ here.passed ++ (front.entry ∷ front.rest)
      whole = here.are_all ∙ ap (λ (es : List EntryAt). here.passed ++ es) front.is_it

      pub key_lawful : kind.lawful y.key ≡ true
      key_lawful =
          ap kind.lawful same_key
          ∙ (rise_back kind None here.passed (front.entry ∷ front.rest) (subst (λ (es : List EntryAt). Rise kind None (keys_at es)) whole asked.rising)).0

      -- the entry is passed with these rows
      passes : (after : List ℕ) (end : ℕ) (rows : List Listed) → cond (within kind first second front.entry.key) (rows_at front.entry) [] ≡ rows → RowsPut rows next skip now' end after → Along kind page first second leaf.entries at skip buffer (i + 1) end after
      passes after end rows is put =
          record {
            passed = here.passed ++ (front.entry ∷ []);
            left = front.rest;
            are_all = whole ∙ sym (append_assoc here.passed (front.entry ∷ []) front.rest);
            are_left = front.rest_read_as;
            passed_are_put =
                subst (λ (rs : List Listed). RowsPut rs at skip buffer end after) (ap (λ (rs : List Listed). listed_at kind first second here.passed ++ rs) (sym (append-nil rows) ∙ ap (λ (rs : List Listed). rs ++ []) (sym is)) ∙ sym (listed_append kind first second here.passed (front.entry ∷ [])))
                (put_on (listed_at kind first second here.passed) rows at skip buffer next now' end after here.passed_are_put put);
          }

      under : below kind y.key first ≡ true → Along kind page first second leaf.entries at skip buffer (i + 1) next now'
      under e = passes now' next [] (not_below_first kind first second front.entry (ap (λ (k : Field). below kind k first) (sym same_key) ∙ e)) (put_none next skip now')

      listed_here : below kind y.key first ≡ false → below kind second y.key ≡ false → (end : ℕ) (after : List ℕ) → RowsPut (rows_at front.entry) next skip now' end after → Along kind page first second leaf.entries at skip buffer (i + 1) end after
      listed_here e f end after put =
          passes after end (rows_at front.entry) (between kind first second front.entry (ap (λ (k : Field). below kind k first) (sym same_key) ∙ e) (ap (λ (k : Field). below kind second k) (sym same_key) ∙ f)) put

      chain_readable : ReadableChain pages (head_of front.entry.records) front.entry.records
      chain_readable =
          (all_back (λ (entry : EntryAt). ReadableChain pages (head_of entry.records) entry.records) here.passed (front.entry ∷ front.rest) (subst (λ (es : List EntryAt). AllByRecursion (λ (entry : EntryAt). ReadableChain pages (head_of entry.records) entry.records) es) whole asked.readable.chains_are_readable)).0

      -- a key above the second: nothing is listed from there on
      pub leaf_done : below kind second y.key ≡ true → LeafPassed kind first second leaf.entries at skip buffer (Break next) now'
      leaf_done over =
          let above : below kind second front.entry.key ≡ true = ap (λ (k : Field). below kind second k) (sym same_key) ∙ over in
          let here_none : listed_at kind first second (front.entry ∷ front.rest) ≡ [] = later_none kind first second asked.second_lawful None here.passed front.entry front.rest above (subst (λ (es : List EntryAt). Rise kind None (keys_at es)) whole asked.rising) in
          let all : listed_at kind first second leaf.entries ≡ listed_at kind first second here.passed = ap (listed_at kind first second) whole ∙ listed_append kind first second here.passed (front.entry ∷ front.rest) ∙ ap (λ (rs : List Listed). listed_at kind first second here.passed ++ rs) here_none ∙ append-nil (listed_at kind first second here.passed) in
          record {
            puts_its_rows = subst (λ (rs : List Listed). RowsPut rs at skip buffer next now') (sym all) here.passed_are_put;
            breaks_past_the_second = λ row broke later rise.
                let behind : leaf.entries ++ later ≡ here.passed ++ (front.entry ∷ (front.rest ++ later)) = ap (λ (es : List EntryAt). es ++ later) whole ∙ append_assoc here.passed (front.entry ∷ front.rest) later in
                let none = later_none kind first second asked.second_lawful None here.passed front.entry (front.rest ++ later) above (subst (λ (es : List EntryAt). Rise kind None (keys_at es)) behind rise) in
                ap (λ (rs : List Listed). rs ++ listed_at kind first second later) (sym here_none) ∙ sym (listed_append kind first second (front.entry ∷ front.rest) later) ∙ none;
          }

      pub entry_never_refused : {answer : Result ℕ Refusal} {refusal : Refusal} {after : List ℕ} → EntryWalked pages y next skip now' answer after → answer ≡ Err refusal → ⊥
      entry_never_refused {refusal = refusal} {after = after} walked err =
          MatchResult-at_err (λ next'. RowsPut (rows_at front.entry) next skip now' next' after) (λ _. ⊥) refusal err (walked.puts_its_rows front.entry front.reads_as chain_readable)

    -- a key below the first is passed without rows, one between the two with its own
    pub leaf_under : below kind y.key first ≡ true → LeafSoFar kind pages page first second at skip buffer (i + 1) next now'
    leaf_under e = record { along = λ leaf asked. under asked e }

    pub leaf_lists : below kind y.key first ≡ false → below kind second y.key ≡ false → {answer : Result ℕ Refusal} {end : ℕ} {after : List ℕ} → EntryWalked pages y next skip now' answer after → answer ≡ Ok end
        → LeafSoFar kind pages page first second at skip buffer (i + 1) end after
    leaf_lists e f {end = end} {after = after} walked ok =
        record {
          along = λ leaf asked.
              let x = front asked in
              listed_here asked e f end after
              (MatchResult-at_ok (λ next'. RowsPut (rows_at x.entry) next skip now' next' after) (λ _. ⊥) end ok (walked.puts_its_rows x.entry x.reads_as (chain_readable asked)));
        }

  -- all entries are passed
  pub leaf_ends : {leaf : Leaf} → Asked kind pages page first second leaf → length page.entries ≤ i → LeafPassed kind first second leaf.entries at skip buffer (Continue next) now'
  leaf_ends {leaf = leaf} asked past =
      let here = sofar.along leaf asked in
      let none : here.left ≡ [] = no_left here.left (sym here.are_left ∙ drop_all i page.entries past) in
      let all : here.passed ≡ leaf.entries = sym (append-nil here.passed) ∙ ap (λ (es : List EntryAt). here.passed ++ es) (sym none) ∙ sym here.are_all in
      record {
        puts_its_rows = subst (λ (es : List EntryAt). RowsPut (listed_at kind first second es) at skip buffer next now') all here.passed_are_put;
        breaks_past_the_second = λ row broke. cc;
      }
    where
      no_left : (left : List EntryAt) → map entry_in left ≡ [] → left ≡ []
      no_left [] e = refl
      no_left (entry ∷ rest) e = cc
