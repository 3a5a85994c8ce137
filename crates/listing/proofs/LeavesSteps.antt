-- The walk over leaves side by side: what it keeps, and where it ends. Assumes nothing.
use Rattle.std.proofs.Common.{◌≡◌, ℕ, suc, ◌+◌, ◌≤◌, List, [], ◌∷◌, ◌++◌, length, None, Ok, Err, Result, sym, refl, ap, ◌∙◌, subst, append_assoc, append-nil, arith}
use Rattle.std.specs.List.{flat_map, AllByRecursion}
use Rattle.std.proofs.lemmas.Result.{MatchResult-at_ok, MatchResult-at_err}
use Rattle.std.specs.declared.ops.ControlFlow.{ControlFlow}
use Rattle.std.specs.declared.ops.ControlFlow.TheVariants.{Break}
use Rattle.refusals.specs.declared.Refusal.{Refusal}
use Rattle.page_store.specs.Meanings.{Meaning, count_of}
use Rattle.keys.specs.Kinds.{Kind, Field}
use Rattle.nodes.specs.declared.leaf.Leaf.{Leaf as LeafRead}
use Rattle.nodes.specs.Layout.{LeafPage, leaf_image, LeafFits}
use Rattle.nodes.specs.Meanings.{leaf_of}
use Rattle.book.specs.Looking.{Listed}
use Rattle.tree.specs.Trees.{EntryAt, Leaf}
use Rattle.tree.specs.Valid.{Pages, Rise, next_leaf, Linked}
use Rattle.searching.specs.NodeReads.{NodeRead}
use Rattle.searching.specs.Descents.{keys_in}
use Rattle.listing.specs.Readable.{leaf_page, Stands, ReadableLeaf, ReadableLeaves}
use Rattle.listing.specs.Walks.{listed_at, RowsPut, row_after, LeafPassed, LeafWalked}
use Rattle.listing.proofs.ReadStanding.{read_is, read_is_ok}
use Rattle.listing.proofs.Putting.{put_none, put_on}
use Rattle.listing.proofs.InRange.{keys_at, listed_append, rise_front, rise_back}

abbrev pub entries_in : List Leaf → List EntryAt
entries_in leaves = flat_map (λ (leaf : Leaf). leaf.entries) leaves

-- a walk goes on where it is not done and there is a next leaf
-- leaves that are asked for the rows of keys from one to another, the first of them read
pub record Asked (kind : Kind) (pages : Pages) (page : LeafPage) (first second : Field) (leaf : Leaf) (right : List Leaf) : Type 0 where
  pub is_it : page ≡ leaf_page leaf
  pub readable : ReadableLeaves kind pages (leaf ∷ right)

-- entries that are passed, and leaves that are left, the first of them read
pub record Along (kind : Kind) (pages : Pages) (first second : Field) (entries : List EntryAt) (skip : ℕ) (buffer : List ℕ) (step : ℕ) (page : LeafPage) (next : ℕ) (now' : List ℕ) : Type 0 where
  pub passed : List EntryAt
  pub here : Leaf
  pub right : List Leaf
  pub are_all : entries ≡ passed ++ entries_in (here ∷ right)
  pub asked : Asked kind pages page first second here right
  pub few : step + suc (length right) ≤ length pages
  pub passed_are_put : RowsPut (listed_at kind first second passed) 0 skip buffer next now'

pub record LeavesSoFar (kind : Kind) (pages : Pages) (start : LeafPage) (first second : Field) (skip : ℕ) (buffer : List ℕ) (step : ℕ) (page : LeafPage) (next : ℕ) (now' : List ℕ) : Type 0 where
  pub along : (leaf : Leaf) (right : List Leaf) → Asked kind pages start first second leaf right → Along kind pages first second (entries_in (leaf ∷ right)) skip buffer step page next now'

pub leaves_start : {kind : Kind} {pages : Pages} {start : LeafPage} {first second : Field} {skip : ℕ} {buffer : List ℕ} → LeavesSoFar kind pages start first second skip buffer 0 start 0 buffer
leaves_start {skip = skip} {buffer = buffer} =
    record {
      along = λ leaf right asked.
          record { passed = []; here = leaf; right = right; are_all = refl; asked = asked; few = let few = asked.readable.no_more_than_pages in omega arith; passed_are_put = put_none 0 skip buffer };
    }

module _ {kind : Kind} (m : Meaning) {start : LeafPage} {first second : Field} {skip : ℕ} {buffer : List ℕ} {step : ℕ} {page : LeafPage} {next : ℕ} {now' : List ℕ} (sofar : LeavesSoFar kind m.pages start first second skip buffer step page next now')
    {answer : Result (ControlFlow ℕ ℕ) Refusal} {after : List ℕ} (walked : LeafWalked kind m.pages page first second next skip now' answer after) where
  module _ {leaf : Leaf} {right : List Leaf} (asked : Asked kind m.pages start first second leaf right) where
    way : Along kind m.pages first second (entries_in (leaf ∷ right)) skip buffer step page next now'
    way = sofar.along leaf right asked

    rising_here : Rise kind None (keys_at way.here.entries)
    rising_here = rise_front kind None way.here.entries (entries_in way.right) way.asked.readable.keys_rise

    pub leaf_never_refused : {refusal : Refusal} → answer ≡ Err refusal → ⊥
    leaf_never_refused {refusal = refusal} err =
        MatchResult-at_err (λ flow. LeafPassed kind first second way.here.entries next skip now' flow after) (λ _. ⊥) refusal err
        (walked.passes_it way.here way.asked.is_it way.asked.readable.each_is_readable.0 rising_here)

    module _ {flow : ControlFlow ℕ ℕ} (ok : answer ≡ Ok flow) where
      leaf_passed : LeafPassed kind first second way.here.entries next skip now' flow after
      leaf_passed =
          MatchResult-at_ok (λ flow. LeafPassed kind first second way.here.entries next skip now' flow after) (λ _. ⊥) flow ok
          (walked.passes_it way.here way.asked.is_it way.asked.readable.each_is_readable.0 rising_here)

      -- the rows so far, and those of this leaf
      with_this : RowsPut (listed_at kind first second (way.passed ++ way.here.entries)) 0 skip buffer (row_after flow) after
      with_this =
          subst (λ (rows : List Listed). RowsPut rows 0 skip buffer (row_after flow) after) (sym (listed_append kind first second way.passed way.here.entries))
          (put_on (listed_at kind first second way.passed) (listed_at kind first second way.here.entries) 0 skip buffer next now' (row_after flow) after way.passed_are_put leaf_passed.puts_its_rows)

      -- nothing is listed right of this leaf
      no_more : listed_at kind first second (entries_in way.right) ≡ [] → RowsPut (listed_at kind first second (entries_in (leaf ∷ right))) 0 skip buffer (row_after flow) after
      no_more none =
          let all : listed_at kind first second (entries_in (leaf ∷ right)) ≡ listed_at kind first second (way.passed ++ way.here.entries) =
          ap (listed_at kind first second) (way.are_all ∙ sym (append_assoc way.passed way.here.entries (entries_in way.right)))
          ∙ listed_append kind first second (way.passed ++ way.here.entries) (entries_in way.right)
          ∙ ap (λ (rows : List Listed). listed_at kind first second (way.passed ++ way.here.entries) ++ rows) none
          ∙ append-nil (listed_at kind first second (way.passed ++ way.here.entries)) in
          subst (λ (rows : List Listed). RowsPut rows 0 skip buffer (row_after flow) after) (sym all) with_this

      same_next : page.next ≡ way.here.next
      same_next = ap (λ (p : LeafPage). p.next) way.asked.is_it

      -- page 0 is no leaf
      no_right : (others : List Leaf) → page.next ≡ next_leaf others → AllByRecursion (ReadableLeaf m.pages) others → page.next ≡ 0 → entries_in others ≡ []
      no_right [] is readable none = refl
      no_right (other ∷ others) is readable none = absurd (let some = readable.0.stands.not_on_page_0 in omega arith)

      -- the walk broke off at a key above the second, or no leaf is right of this one
      pub leaves_broken : {row : ℕ} → flow ≡ Break row → RowsPut (listed_at kind first second (entries_in (leaf ∷ right))) 0 skip buffer (row_after flow) after
      leaves_broken {row = row} broke = no_more (leaf_passed.breaks_past_the_second row broke (entries_in way.right) way.asked.readable.keys_rise)

      pub leaves_end : page.next ≡ 0 → RowsPut (listed_at kind first second (entries_in (leaf ∷ right))) 0 skip buffer (row_after flow) after
      leaves_end none = no_more (ap (listed_at kind first second) (no_right way.right (same_next ∙ way.asked.readable.are_linked.0) way.asked.readable.each_is_readable.1 none))

      -- the next leaf
      module _ (some : page.next ≡ 0 → ⊥) where
        record Next (others : List Leaf) : Type 0 where
          pub other : Leaf
          pub rest : List Leaf
          pub is_it : others ≡ other ∷ rest
          pub stands : Stands leaf_image LeafFits m.pages page.next (leaf_page other)

        next_leaf_on : (others : List Leaf) → page.next ≡ next_leaf others → AllByRecursion (ReadableLeaf m.pages) others → Next others
        next_leaf_on [] is readable = absurd (some is)
        next_leaf_on (other ∷ rest) is readable =
            record { other = other; rest = rest; is_it = refl; stands = subst (λ (n : ℕ). Stands leaf_image LeafFits m.pages n (leaf_page other)) (sym is) readable.0.stands }

        there : Next way.right
        there = next_leaf_on way.right (same_next ∙ way.asked.readable.are_linked.0) way.asked.readable.each_is_readable.1

        readable_right : ReadableLeaves kind m.pages (there.other ∷ there.rest)
        readable_right =
            let all = way.asked.readable in
            let size : length way.right ≡ suc (length there.rest) = ap length there.is_it in
            let few = all.no_more_than_pages in
            record {
              each_is_readable = subst (λ (ls : List Leaf). AllByRecursion (ReadableLeaf m.pages) ls) there.is_it all.each_is_readable.1;
              are_linked = subst Linked there.is_it all.are_linked.1;
              keys_rise = subst (λ (ls : List Leaf). Rise kind None (keys_in ls)) there.is_it (rise_back kind None way.here.entries (entries_in way.right) all.keys_rise);
              no_more_than_pages = omega arith;
            }

        module _ {r : Result LeafRead Refusal} (read : NodeRead leaf_image LeafFits leaf_of m page.next r) where
          pub next_is_read : {refusal : Refusal} → r ≡ Err refusal → ⊥
          next_is_read {refusal = refusal} err = read_is_ok leaf_image LeafFits leaf_of m page.next (leaf_page there.other) there.stands refusal r read err

          along_more : {x : LeafRead} → r ≡ Ok x → Along kind m.pages first second (entries_in (leaf ∷ right)) skip buffer (step + 1) (leaf_of x) (row_after flow) after
          along_more {x = x} read_ok =
              let size : length way.right ≡ suc (length there.rest) = ap length there.is_it in
              let few = way.few in
              record {
                passed = way.passed ++ way.here.entries;
                here = there.other;
                right = there.rest;
                are_all = way.are_all ∙ sym (append_assoc way.passed way.here.entries (entries_in way.right)) ∙ ap (λ (ls : List Leaf). (way.passed ++ way.here.entries) ++ entries_in ls) there.is_it;
                asked = record { is_it = read_is leaf_image LeafFits leaf_of m page.next (leaf_page there.other) there.stands x r read read_ok; readable = readable_right };
                few = omega arith;
                passed_are_put = with_this;
              }

  pub leaves_more : {flow : ControlFlow ℕ ℕ} → answer ≡ Ok flow → (page.next ≡ 0 → ⊥) → {r : Result LeafRead Refusal} → NodeRead leaf_image LeafFits leaf_of m page.next r → {x : LeafRead} → r ≡ Ok x
      → LeavesSoFar kind m.pages start first second skip buffer (step + 1) (leaf_of x) (row_after flow) after
  leaves_more ok some read read_ok = record { along = λ leaf right asked. along_more asked ok some read read_ok }

-- as many leaves as pages are never left
pub leaves_never_so_many : {kind : Kind} (m : Meaning) {start : LeafPage} {first second : Field} {skip : ℕ} {buffer : List ℕ} {step : ℕ} {page : LeafPage} {next : ℕ} {now' : List ℕ} → LeavesSoFar kind m.pages start first second skip buffer step page next now'
    → {leaf : Leaf} {right : List Leaf} → Asked kind m.pages start first second leaf right → count_of m ≤ step → ⊥
leaves_never_so_many m sofar {leaf = leaf} {right = right} asked past = let few = (sofar.along leaf right asked).few in omega arith
