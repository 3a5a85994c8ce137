-- What a read of a typed page gives where the page holds the image of a value that fits. Assumes nothing.
use Rattle.std.proofs.Common.{◌≡◌, ℕ, Bool, true, false, cond, ltb, ◌⊎◌, List, Ok, Err, Result, sym, refl, ap, ◌∙◌, subst, inl, inr, arith}
use Rattle.refusals.specs.declared.Refusal.{Refusal}
use Rattle.refusals.specs.Refusals.{Refused, number_of, place_of}
use Rattle.page_store.specs.Meanings.{Meaning, Page, Live, Gone, count_of, page_at, done, found, read_answer}
use Rattle.page_store.proofs.Laws.{never, live_is_there, goes_on}
use Rattle.nodes.specs.Codec.{Spells}
use Rattle.calls.specs.States.{ShowsDamage}
use Rattle.searching.specs.NodeReads.{Tells, NodeRead, RefusesOnlyDamage}

-- a page that is not lost is read
pub live_is_read : (m : Meaning) (page : ℕ) (bytes : List ℕ) → page_at m page ≡ Live bytes → read_answer m page 512 ≡ done
live_is_read m page bytes e = sym (goes_on (count_of m) page 512 (found (page_at m page) page) refl (live_is_there m page bytes e)) ∙ ap (λ p. found p page) e

module _ {V X : Type 0} (image : V → List ℕ) (Fits : V → Type 0) (meaning : X → V) (m : Meaning) (page : ℕ) (v : V) (fits : Fits v) (holds : page_at m page ≡ Live (image v)) where
  pub read_value : (x : X) → (bytes : List ℕ) × (page_at m page ≡ Live bytes) × Spells image Fits bytes (meaning x) → meaning x ≡ v
  read_value x (bytes, live, spells) = let same : bytes ≡ image v = cc in sym (spells.of_no_other v fits same)

  pub read_never_refused : (refusal : Refusal) → Tells refusal (read_answer m page 512) ⊎ (Tells refusal (Refused 10 0) × ((v : V) → Fits v → page_at m page ≡ Live (image v) → ⊥)) → ⊥
  read_never_refused refusal (inl told) = never (number_of refusal) (place_of refusal) (told ∙ live_is_read m page (image v) holds)
  read_never_refused refusal (inr (told, none)) = none v fits holds

-- a refused read shows damage: the store refuses a page that is lost or not there, else the page is DAMAGED
told_by_the_store : (m : Meaning) (page : ℕ) (refusal : Refusal) → Tells refusal (read_answer m page 512) → ShowsDamage (number_of refusal)
told_by_the_store m page refusal told = go (ltb page (count_of m)) (page_at m page) told
  where
    go : (b : Bool) (p : Page) → Tells refusal (cond b (found p page) (Refused 12 page)) → ShowsDamage (number_of refusal)
    go false p e = inr (inr cc)
    go true Gone e = inl cc
    go true (Live bytes) e = absurd (never (number_of refusal) (place_of refusal) e)

pub read_shows_damage : {V X : Type 0} (image : V → List ℕ) (Fits : V → Type 0) (meaning : X → V) (m : Meaning) (page : ℕ) (refusal : Refusal) (r : Result X Refusal) → NodeRead image Fits meaning m page r → r ≡ Err refusal → ShowsDamage (number_of refusal)
read_shows_damage image Fits meaning m page refusal (Ok x) read e = absurd (let z : ◌≡◌ {A = ℕ} 0 1 = cc in omega arith)
read_shows_damage image Fits meaning m page refusal (Err other) (inl told) e = let same : other ≡ refusal = cc in subst (λ (r : Refusal). ShowsDamage (number_of r)) same (told_by_the_store m page other told)
read_shows_damage image Fits meaning m page refusal (Err other) (inr (told, none)) e = let same : other ≡ refusal = cc in subst (λ (r : Refusal). ShowsDamage (number_of r)) same (inr (inl cc))

-- and so does whatever is returned for it
pub returned_shows_damage : {T : Type 0} (r : Result T Refusal) (refusal : Refusal) → r ≡ Err refusal → ShowsDamage (number_of refusal) → RefusesOnlyDamage r
returned_shows_damage (Ok x) refusal e damage = tt
returned_shows_damage (Err other) refusal e damage = let same : refusal ≡ other = cc in subst (λ (r : Refusal). ShowsDamage (number_of r)) same damage

pub damage_at : {T : Type 0} (r : Result T Refusal) (refusal : Refusal) → RefusesOnlyDamage r → r ≡ Err refusal → ShowsDamage (number_of refusal)
damage_at (Ok x) refusal only e = absurd (let z : ◌≡◌ {A = ℕ} 0 1 = cc in omega arith)
damage_at (Err other) refusal only e = let same : other ≡ refusal = cc in subst (λ (r : Refusal). ShowsDamage (number_of r)) same only
