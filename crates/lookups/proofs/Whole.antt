-- A lookup as a whole. Assumes nothing.
use Rattle.std.proofs.Common.{◌≡◌, ℕ, ◌≤◌, true, false, List, length, Ok, Err, Result, sym, ap, ◌∙◌, subst, MatchResult}
use Rattle.std.proofs.lemmas.Result.{MatchResult-at_ok, MatchResult-at_err}
use Rattle.refusals.specs.declared.Refusal.{Refusal}
use Rattle.refusals.specs.Refusals.{Accepted, Refused, answer_of, number_of}
use Rattle.page_store.specs.Meanings.{Meaning, count_of}
use Rattle.keys.specs.Kinds.{Kind, Field}
use Rattle.book.specs.Entries.{Entries, book_of}
use Rattle.book.specs.Looking.{list_after_lookup}
use Rattle.tree.specs.Valid.{Pages, Valid}
use Rattle.calls.specs.declared.answers.Looked.{Looked}
use Rattle.calls.specs.States.{height_of, ShowsDamage}
use Rattle.calls.specs.Lookups.{looked_up, LooksUp}
use Rattle.searching.specs.declared.arrival.Descent.{Descent}
use Rattle.searching.specs.NodeReads.{RefusesOnlyDamage}
use Rattle.searching.specs.Descents.{Arrives}
use Rattle.lookups.specs.Showing.{Shown}

answered : {kind : Kind} {pages : Pages} {entries : Entries} (valid : Valid kind pages entries) (key : Field) (list after : List ℕ) (r : Result Looked Refusal) → MatchResult r (λ (looked : Looked). Shown valid key list looked after) (λ _. ⊥)
    → (answer_of r ≡ Accepted (looked_up kind (height_of valid) entries key (length list))) × (after ≡ list_after_lookup kind (book_of entries) key list)
answered valid key list after (Ok looked) shown = (ap (λ (x : Looked). Accepted x) shown.answers_by_the_book, shown.writes_by_the_book)
answered valid key list after (Err refusal) shown = absurd shown

-- an answer that refuses shows damage where the call refuses only damage
pub answers_only_damage : {X : Type 0} (r : Result X Refusal) → RefusesOnlyDamage r → (number place : ℕ) → answer_of r ≡ Refused number place → ShowsDamage number
answers_only_damage (Ok x) only number place e = cc
answers_only_damage (Err refusal) only number place e = let same : number_of refusal ≡ number = cc in subst ShowsDamage same only

module _ (kind : Kind) (m : Meaning) (part key : Field) (list : List ℕ) (lawful : kind.lawful part ≡ true) (same : part ≡ key) (few : count_of m ≤ 65536) (way : Result Descent Refusal) (arrives : (entries : Entries) (valid : Valid kind m.pages entries) → kind.lawful part ≡ true → MatchResult way (Arrives valid part) (λ _. ⊥)) where
  refused_never : {X : Type 0} → kind.lawful key ≡ false → X
  refused_never unlawful = let l : kind.lawful key ≡ true = ap kind.lawful (sym same) ∙ lawful in cc

  -- a way down that is refused is none of a valid tree
  pub refused_on_the_way : (refusal : Refusal) → way ≡ Err refusal → (r : Result Looked Refusal) → RefusesOnlyDamage r → (after : List ℕ) → LooksUp kind m.pages key list (answer_of r) after
  refused_on_the_way refusal e r only after =
      record {
        refuses_an_unlawful_key = refused_never;
        shows_what_the_tree_holds = λ l entries valid. absurd (MatchResult-at_err (Arrives valid part) (λ _. ⊥) refusal e (arrives entries valid lawful));
        refuses_a_lawful_key_only_for_damage = λ l. answers_only_damage r only;
      }

  pub looked_up_whole : (descent : Descent) → way ≡ Ok descent → (after_way : Meaning) → after_way ≡ m → (r : Result Looked Refusal) → RefusesOnlyDamage r → (after : List ℕ)
      → ((entries : Entries) (valid : Valid kind after_way.pages entries) → count_of after_way ≤ 65536 → Arrives valid part descent → MatchResult r (λ (looked : Looked). Shown valid part list looked after) (λ _. ⊥))
      → LooksUp kind m.pages key list (answer_of r) after
  looked_up_whole descent e after_way kept r only after shows =
      subst (λ (k : Field). LooksUp kind m.pages k list (answer_of r) after) same
      (record {
        refuses_an_unlawful_key = λ unlawful. cc;
        shows_what_the_tree_holds = λ l entries valid.
            answered valid part list after r
            (subst (λ (k : Meaning). (entries : Entries) (valid : Valid kind k.pages entries) → count_of k ≤ 65536 → Arrives valid part descent → MatchResult r (λ (looked : Looked). Shown valid part list looked after) (λ _. ⊥)) kept shows
            entries valid few (MatchResult-at_ok (Arrives valid part) (λ _. ⊥) descent e (arrives entries valid lawful)));
        refuses_a_lawful_key_only_for_damage = λ l. answers_only_damage r only;
      })
