-- Worked examples, as the definitions answer them: batches by their bytes, merges by the entries, lookups by the book that these spell.
use Rattle.std.specs.Prelude.{◌≡◌, ℕ, ◌-◌, ◌^◌, true, List, [], ◌∷◌, length}
use Rattle.refusals.specs.Refusals.{Answer, Accepted, Refused, and_then}
use Rattle.keys.specs.Kinds.{Kind}
use Rattle.keys.specs.BuiltIn.{word_kind}
use Rattle.keys.specs.Worked.{WorkedComparisons}
use Rattle.batches.specs.declared.line.Line.{Line}
use Rattle.batches.specs.Layout.{file_of}
use Rattle.batches.specs.Opening.{open_answer}
use Rattle.book.specs.Entries.{Entries, book_of}
use Rattle.book.specs.Examples.{rent, plus, minus, under}
use Rattle.book.specs.Looking.{list_after_lookup}
use Rattle.tree.specs.Heights.{HeightSevenNeeds65536Leaves, HeightIsAtMostSix}
use Rattle.calls.specs.States.{State}
use Rattle.calls.specs.Lookups.{looked_up}
use Rattle.calls.specs.Merges.{judgement, merged, Merges}

-- the batch of one row, rent, and one line
abbrev pub rent_batch : Line → List ℕ
rent_batch line = file_of 1 (under rent (line ∷ []) ∷ [])

-- rent alone, with its postings inline
abbrev pub rent_holds : List ℕ → Entries
rent_holds postings = record { key = rent; value = record { inline = postings; records = [] } } ∷ []

-- a batch merged on an open index: the entries after it, or its refusal
abbrev pub merging : Kind → (free : ℕ) → (batch : List ℕ) → Entries → Answer Entries
merging kind free batch entries = and_then (judgement kind true free batch entries) (Accepted (merged kind batch entries))

-- a batch of so many bytes, which opens
pub record OpenBatchOf (size : ℕ) (bytes : List ℕ) : Type 0 where
  pub has_so_many_bytes : length bytes ≡ size
  pub opens : open_answer bytes ≡ Accepted tt

-- the batch with no rows and no lines
pub record ChangesNothing (kind : Kind) : Type 0 where
  pub is_16_bytes_that_open : OpenBatchOf 16 (file_of kind.code [])
  pub leaves_every_page : (before after : State) (answer : Answer ℕ) → Merges kind before (file_of kind.code []) answer after → after.meaning ≡ before.meaning
  pub is_accepted_without_effect : (free : ℕ) (entries : Entries) → merging kind free (file_of kind.code []) entries ≡ Accepted entries

-- posting 7, then 9, under rent on 62 free pages
pub record SevenThenNine : Type 0 where
  pub seven_is_57_bytes_that_open : OpenBatchOf 57 (rent_batch (plus 7))
  pub nine_is_57_bytes_that_open : OpenBatchOf 57 (rent_batch (plus 9))
  pub seven_is_accepted : merging word_kind 62 (rent_batch (plus 7)) [] ≡ Accepted (rent_holds (7 ∷ []))
  pub nine_is_accepted_after_it : merging word_kind 62 (rent_batch (plus 9)) (rent_holds (7 ∷ [])) ≡ Accepted (rent_holds (9 ∷ 7 ∷ []))
  pub lookup_answers_two : looked_up word_kind 1 (rent_holds (9 ∷ 7 ∷ [])) rent 2 ≡ record { total = 2; written = 2; reads = 1 }
  pub lookup_writes_9_then_7 : (old older : ℕ) → list_after_lookup word_kind (book_of (rent_holds (9 ∷ 7 ∷ []))) rent (old ∷ older ∷ []) ≡ 9 ∷ 7 ∷ []

-- cancelling 7 in two batches
pub record CancelledTwice : Type 0 where
  pub is_57_bytes_that_open : OpenBatchOf 57 (rent_batch (minus 7))
  pub the_first_is_accepted : merging word_kind 62 (rent_batch (minus 7)) (rent_holds (9 ∷ 7 ∷ [])) ≡ Accepted (rent_holds (9 ∷ []))
  pub the_second_is_absent_at_line_0 : merging word_kind 62 (rent_batch (minus 7)) (rent_holds (9 ∷ [])) ≡ Refused 7 0

-- the ends of the posting numbers
pub record NumbersEnd : Type 0 where
  pub the_largest_opens : open_answer (rent_batch (plus (2 ^ 63 - 1))) ≡ Accepted tt
  pub zero_is_refused : open_answer (rent_batch (plus 0)) ≡ Refused 5 0
  pub one_above_the_largest_is_refused : open_answer (rent_batch (plus (2 ^ 63))) ≡ Refused 5 0

pub record WorkedExamples : Type 0 where
  pub the_empty_batch_of_the_kind_changes_nothing : (kind : Kind) → ChangesNothing kind
  pub posting_7_then_9_shows_9_then_7 : SevenThenNine
  pub posting_7_again_stands_at_line_0 : merging word_kind 62 (rent_batch (plus 7)) (rent_holds (9 ∷ 7 ∷ [])) ≡ Refused 6 0
  pub cancelling_7_twice_is_absent_at_line_0 : CancelledTwice
  pub words_and_account_days_compare : WorkedComparisons
  pub numbers_run_from_1_to_below_2_to_the_63 : NumbersEnd
  pub height_7_needs_65536_leaves : HeightSevenNeeds65536Leaves
  pub which_no_store_has_beside_the_header : HeightIsAtMostSix
