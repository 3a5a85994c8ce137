-- Merge: a call that judges an open batch and changes nothing, then one that takes the batch and carries out its lines.
use Rattle.std.specs.Prelude.{◌≡◌, ℕ, Bool, List, [], length}
use Rattle.refusals.specs.Refusals.{Answer, Accepted, Refused, wants, and_then}
use Rattle.page_store.specs.Meanings.{count_of}
use Rattle.keys.specs.Kinds.{Kind}
use Rattle.batches.specs.Reading.{kind_code, rows_in}
use Rattle.batches.specs.Opening.{open_answer}
use Rattle.batches.specs.KeyCheck.{kind_and_keys_answer}
use Rattle.book.specs.Merging.{lines_under, lines_taken, check_answer}
use Rattle.book.specs.Entries.{Entries, paged}
use Rattle.tree.specs.Valid.{Valid}
use Rattle.calls.specs.States.{State, pages_of, free_in}

-- NOT OPEN, KIND and KEY, which no page is needed for
abbrev pub pageless_answer : Kind → (is_open : Bool) → (batch : List ℕ) → Answer Unit
pageless_answer kind is_open batch = and_then (wants is_open 1 0) (kind_and_keys_answer kind (kind_code batch) (rows_in batch))

-- and then STANDS, ABSENT and NO PAGES, by the entries and the free pages of a valid tree
abbrev pub judgement : Kind → (is_open : Bool) → (free : ℕ) → (batch : List ℕ) → Entries → Answer Unit
judgement kind is_open free batch entries = and_then (wants is_open 1 0) (check_answer kind paged free (kind_code batch) (rows_in batch) entries)

-- the entries after all lines of a batch: each entry's inline postings and records come from the old ones by the rules for lines
abbrev pub merged : Kind → (batch : List ℕ) → Entries → Entries
merged kind batch entries = lines_taken kind paged (lines_under (rows_in batch)) entries

-- what the judging call answers; it takes the open batch by reference, so a refused batch is still open
pub record Judges (kind : Kind) (before : State) (batch : List ℕ) (answer : Answer Unit) (after : State) : Type 0 where
  pub leaves_the_pages : after.meaning ≡ before.meaning
  pub leaves_the_openness : after.is_open ≡ before.is_open
  pub refuses_without_a_page : (number place : ℕ) → pageless_answer kind before.is_open batch ≡ Refused number place → answer ≡ Refused number place
  pub judges_by_the_entries : (entries : Entries) (valid : Valid kind (pages_of before) entries) → answer ≡ judgement kind before.is_open (free_in valid) batch entries

-- what an accepted judgement tells on any pages, and all that the taking call asks
pub record Acceptable (kind : Kind) (state : State) (batch : List ℕ) : Type 0 where
  pub without_a_page : pageless_answer kind state.is_open batch ≡ Accepted tt
  pub by_the_entries : (entries : Entries) (valid : Valid kind (pages_of state) entries) → judgement kind state.is_open (free_in valid) batch entries ≡ Accepted tt

-- what the taking call does; it takes the batch itself, which is used up
pub record Takes (kind : Kind) (before : State) (batch : List ℕ) (keys : ℕ) (after : State) : Type 0 where
  pub keeps_the_count : count_of after.meaning ≡ count_of before.meaning
  pub leaves_the_openness : after.is_open ≡ before.is_open
  pub no_rows_change_nothing : rows_in batch ≡ [] → after.meaning ≡ before.meaning
  pub carries_out_every_line : (entries : Entries) → Valid kind (pages_of before) entries
      → (keys ≡ length (merged kind batch entries)) × Valid kind (pages_of after) (merged kind batch entries)

-- both calls together, on an open batch: all of its lines or none
pub record Merges (kind : Kind) (before : State) (batch : List ℕ) (answer : Answer ℕ) (after : State) : Type 0 where
  pub keeps_the_count : count_of after.meaning ≡ count_of before.meaning
  pub leaves_the_openness : after.is_open ≡ before.is_open
  pub refuses_without_a_page : (number place : ℕ) → pageless_answer kind before.is_open batch ≡ Refused number place
      → (answer ≡ Refused number place) × (after.meaning ≡ before.meaning)
  pub refused_changes_nothing : (number place : ℕ) → answer ≡ Refused number place → after.meaning ≡ before.meaning
  pub no_rows_change_nothing : rows_in batch ≡ [] → after.meaning ≡ before.meaning
  pub refused_leaves_the_pages : (entries : Entries) (valid : Valid kind (pages_of before) entries) (number place : ℕ) → judgement kind before.is_open (free_in valid) batch entries ≡ Refused number place
      → (answer ≡ Refused number place) × (after.meaning ≡ before.meaning)
  pub accepted_carries_out_every_line : (entries : Entries) (valid : Valid kind (pages_of before) entries) → judgement kind before.is_open (free_in valid) batch entries ≡ Accepted tt
      → (answer ≡ Accepted (length (merged kind batch entries))) × Valid kind (pages_of after) (merged kind batch entries)

-- a merge of any bytes: those that do not open are answered as opening answers them, and nothing changes
pub record MergesBytes (kind : Kind) (before : State) (bytes : List ℕ) (answer : Answer ℕ) (after : State) : Type 0 where
  pub refuses_what_does_not_open : (number place : ℕ) → open_answer bytes ≡ Refused number place
      → (answer ≡ Refused number place) × (after.meaning ≡ before.meaning) × (after.is_open ≡ before.is_open)
  pub merges_what_opens : open_answer bytes ≡ Accepted tt → Merges kind before bytes answer after
