-- What a lookup finds in a leaf and shows of an entry.
use Rattle.std.specs.Prelude.{◌≡◌, ℕ, ◌+◌, List, ◌∷◌, ◌++◌, length, take, drop, Some, None, Option, ◌≢◌}
use Rattle.std.specs.List.{AllByRecursion}
use Rattle.keys.specs.Kinds.{Kind, Field}
use Rattle.nodes.specs.Layout.{LeafEntry}
use Rattle.book.specs.Entries.{Entries, book_of}
use Rattle.book.specs.Looking.{list_after_lookup}
use Rattle.tree.specs.Trees.{EntryAt}
use Rattle.tree.specs.Valid.{Pages, postings_at, Valid}
use Rattle.calls.specs.declared.answers.Looked.{Looked}
use Rattle.calls.specs.States.{height_of}
use Rattle.calls.specs.Lookups.{looked_up}

abbrev pub Lacks : Field → List LeafEntry → Type 0
Lacks key entries = AllByRecursion (λ (entry : LeafEntry). entry.key ≢ key) entries

-- the first of the entries that has the key, and nothing if none has it
abbrev pub FoundEntry : Field → List LeafEntry → Option LeafEntry → Type 0
FoundEntry key entries None = Lacks key entries
FoundEntry key entries (Some entry) =
    (before : List LeafEntry) × (after : List LeafEntry) × (entries ≡ before ++ (entry ∷ after)) × Lacks key before × (entry.key ≡ key)

-- all of an entry's postings are counted, and as many as the list has places are written
pub record EntryShown (entry : EntryAt) (reads : ℕ) (list : List ℕ) (looked : Looked) (after : List ℕ) : Type 0 where
  pub counts_its_postings : looked.total ≡ length (postings_at entry)
  pub counts_what_is_written : looked.written ≡ length (take (length list) (postings_at entry))
  pub counts_its_records : looked.reads ≡ reads + length entry.records
  pub writes_what_fits : after ≡ take (length list) (postings_at entry) ++ drop (length (take (length list) (postings_at entry))) list

-- what is shown of a key in a valid tree
pub record Shown {kind : Kind} {pages : Pages} {entries : Entries} (valid : Valid kind pages entries) (key : Field) (list : List ℕ) (looked : Looked) (after : List ℕ) : Type 0 where
  pub answers_by_the_book : looked ≡ looked_up kind (height_of valid) entries key (length list)
  pub writes_by_the_book : after ≡ list_after_lookup kind (book_of entries) key list
