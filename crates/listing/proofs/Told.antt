-- What a call did from here on, told of the store and the window as they were at the start. Assumes nothing.
use Rattle.std.proofs.Common.{◌≡◌, ℕ, List, Result, subst}
use Rattle.std.specs.declared.ops.ControlFlow.{ControlFlow}
use Rattle.refusals.specs.declared.Refusal.{Refusal}
use Rattle.page_store.specs.Meanings.{Meaning}
use Rattle.keys.specs.Kinds.{Kind, Field}
use Rattle.nodes.specs.Layout.{LeafEntry, LeafPage}
use Rattle.listing.specs.declared.rows.Window.{Window}
use Rattle.listing.specs.Windows.{Stays}
use Rattle.listing.specs.Walks.{EntryWalked, LeafWalked}
use Rattle.listing.proofs.Windows.{same_skip}

module _ (m now' : Meaning) (before here : Window) (same : now' ≡ m) (stays : Stays before here) {at : ℕ} {buffer after : List ℕ} where
  pub entry_told : {page : LeafEntry} {answer : Result ℕ Refusal} → EntryWalked now'.pages page at here.skip buffer answer after → EntryWalked m.pages page at before.skip buffer answer after
  entry_told {page = page} {answer = answer} walked =
      subst (λ (skip : ℕ). EntryWalked m.pages page at skip buffer answer after) (same_skip before here stays) (subst (λ (k : Meaning). EntryWalked k.pages page at here.skip buffer answer after) same walked)

  pub leaf_told : {kind : Kind} {page : LeafPage} {first second : Field} {answer : Result (ControlFlow ℕ ℕ) Refusal} → LeafWalked kind now'.pages page first second at here.skip buffer answer after → LeafWalked kind m.pages page first second at before.skip buffer answer after
  leaf_told {kind = kind} {page = page} {first = first} {second = second} {answer = answer} walked =
      subst (λ (skip : ℕ). LeafWalked kind m.pages page first second at skip buffer answer after) (same_skip before here stays)
      (subst (λ (k : Meaning). LeafWalked kind k.pages page first second at here.skip buffer answer after) same walked)
