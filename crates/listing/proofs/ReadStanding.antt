-- A value that stands on a page is read from there. Assumes nothing.
use Rattle.std.proofs.Common.{◌≡◌, ℕ, List, Ok, Err, Result, sym, ap, ◌∙◌}
use Rattle.refusals.specs.declared.Refusal.{Refusal}
use Rattle.page_store.specs.Meanings.{Meaning}
use Rattle.searching.specs.NodeReads.{NodeRead}
use Rattle.searching.proofs.ReadValues.{read_value, read_never_refused}
use Rattle.listing.specs.Readable.{Stands}

module _ {V X : Type 0} (image : V → List ℕ) (Fits : V → Type 0) (meaning : X → V) (m : Meaning) (page : ℕ) (v : V) (stands : Stands image Fits m.pages page v) where
  pub read_is : (x : X) (r : Result X Refusal) → NodeRead image Fits meaning m page r → r ≡ Ok x → meaning x ≡ v
  read_is x (Ok y) read e =
      let same : y ≡ x = cc in
      ap meaning (sym same) ∙ read_value image Fits meaning m page v stands.fits stands.is_held y read
  read_is x (Err refusal) read e = cc

  pub read_is_ok : (refusal : Refusal) (r : Result X Refusal) → NodeRead image Fits meaning m page r → r ≡ Err refusal → ⊥
  read_is_ok refusal (Ok y) read e = cc
  read_is_ok refusal (Err other) read e = read_never_refused image Fits meaning m page v stands.fits stands.is_held other read
