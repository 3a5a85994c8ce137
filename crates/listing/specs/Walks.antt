-- What a walk over the tree leaves in the buffer and answers: over a chain, an entry, a leaf, and leaves side by side.
use Rattle.std.specs.Prelude.{◌≡◌, ℕ, ◌+◌, cond, List, [], ◌∷◌, ◌++◌, map, length, None, Result, MatchResult}
use Rattle.std.specs.List.{flat_map}
use Rattle.std.specs.declared.ops.ControlFlow.{ControlFlow}
use Rattle.std.specs.declared.ops.ControlFlow.TheVariants.{Continue, Break}
use Rattle.refusals.specs.declared.Refusal.{Refusal}
use Rattle.keys.specs.Kinds.{Kind, Field}
use Rattle.nodes.specs.Layout.{LeafEntry, LeafPage}
use Rattle.book.specs.Looking.{Listed, within}
use Rattle.tree.specs.Trees.{RecordAt, EntryAt, Leaf}
use Rattle.tree.specs.Valid.{Pages, head_of, entry_in, Rise, postings_at}
use Rattle.listing.specs.Filling.{rows_of, filled}
use Rattle.listing.specs.Readable.{leaf_page, ReadableChain, ReadableLeaf, ReadableLeaves}

-- the rows of a chain of a key, of an entry, and of entries whose keys are from the first to the second
abbrev pub rows_in_chain : Field → List RecordAt → List Listed
rows_in_chain key records = rows_of key (flat_map (λ (r : RecordAt). r.postings) records)

abbrev pub rows_at : EntryAt → List Listed
rows_at entry = rows_of entry.key (postings_at entry)

abbrev pub listed_at : Kind → (first second : Field) → List EntryAt → List Listed
listed_at kind first second entries = flat_map (λ (entry : EntryAt). cond (within kind first second entry.key) (rows_at entry) []) entries

-- the rows that an entry can have: three inline, and as many in its chain as four bytes count
abbrev pub most_in_entry : ℕ
most_in_entry = 4294967299

-- and those of a leaf, which has up to eight entries
abbrev pub most_in_leaf : ℕ
most_in_leaf = 34359738392

-- a chain: its rows, put from row `at` on
pub record ChainWalked (pages : Pages) (key : Field) (head at skip : ℕ) (buffer : List ℕ) (answer : Result Unit Refusal) (after : List ℕ) : Type 0 where
  pub puts_its_rows : (records : List RecordAt) → ReadableChain pages head records → MatchResult answer (λ _. after ≡ filled skip at (rows_in_chain key records) buffer) (λ _. ⊥)

-- rows put from row `at` on, and the row after them
pub record RowsPut (rows : List Listed) (at skip : ℕ) (buffer : List ℕ) (next : ℕ) (after : List ℕ) : Type 0 where
  pub counts_them : next ≡ at + length rows
  pub fills_the_buffer : after ≡ filled skip at rows buffer

pub record EntryWalked (pages : Pages) (page : LeafEntry) (at skip : ℕ) (buffer : List ℕ) (answer : Result ℕ Refusal) (after : List ℕ) : Type 0 where
  pub puts_its_rows : (entry : EntryAt) → page ≡ entry_in entry → ReadableChain pages (head_of entry.records) entry.records → MatchResult answer (λ next. RowsPut (rows_at entry) at skip buffer next after) (λ _. ⊥)

-- the row that comes next, whether the walk goes on or breaks off
abbrev pub row_after : ControlFlow ℕ ℕ → ℕ
row_after (Continue row) = row
row_after (Break row) = row

-- a leaf: where the walk breaks off, no entry right of this leaf is listed
pub record LeafPassed (kind : Kind) (first second : Field) (entries : List EntryAt) (at skip : ℕ) (buffer : List ℕ) (flow : ControlFlow ℕ ℕ) (after : List ℕ) : Type 0 where
  pub puts_its_rows : RowsPut (listed_at kind first second entries) at skip buffer (row_after flow) after
  pub breaks_past_the_second : (row : ℕ) → flow ≡ Break row → (later : List EntryAt) → Rise kind None (map (λ (entry : EntryAt). entry.key) (entries ++ later)) → listed_at kind first second later ≡ []

pub record LeafWalked (kind : Kind) (pages : Pages) (page : LeafPage) (first second : Field) (at skip : ℕ) (buffer : List ℕ) (answer : Result (ControlFlow ℕ ℕ) Refusal) (after : List ℕ) : Type 0 where
  pub passes_it : (leaf : Leaf) → page ≡ leaf_page leaf → ReadableLeaf pages leaf → Rise kind None (map (λ (entry : EntryAt). entry.key) leaf.entries)
      → MatchResult answer (λ flow. LeafPassed kind first second leaf.entries at skip buffer flow after) (λ _. ⊥)

-- leaves side by side, from the first of them on
pub record LeavesWalked (kind : Kind) (pages : Pages) (page : LeafPage) (first second : Field) (skip : ℕ) (buffer : List ℕ) (answer : Result ℕ Refusal) (after : List ℕ) : Type 0 where
  pub puts_their_rows : (leaf : Leaf) (right : List Leaf) → page ≡ leaf_page leaf → ReadableLeaves kind pages (leaf ∷ right)
      → MatchResult answer (λ total. RowsPut (listed_at kind first second (flat_map (λ (l : Leaf). l.entries) (leaf ∷ right))) 0 skip buffer total after) (λ _. ⊥)
