-- What a read of a typed page answers.
use Rattle.std.specs.Prelude.{◌≡◌, ℕ, ◌⊎◌, List, IfErr, Result, MatchResult}
use Rattle.refusals.specs.declared.Refusal.{Refusal}
use Rattle.refusals.specs.Refusals.{Answer, Refused, number_of, place_of}
use Rattle.page_store.specs.Meanings.{Meaning, Live, page_at, read_answer}
use Rattle.nodes.specs.Codec.{Spells}
use Rattle.calls.specs.States.{ShowsDamage}

-- a refusal that is this answer
abbrev pub Tells : Refusal → Answer Unit → Type 0
Tells refusal answer = Refused (number_of refusal) (place_of refusal) ≡ answer

-- the value that a page spells; else the store's refusal, or DAMAGED where the page spells none
abbrev pub NodeRead : {V X : Type 0} → (image : V → List ℕ) → (Fits : V → Type 0) → (meaning : X → V) → Meaning → (page : ℕ) → Result X Refusal → Type 0
NodeRead {V = V} image Fits meaning m page r =
    MatchResult r
    (λ x. (bytes : List ℕ) × (page_at m page ≡ Live bytes) × Spells image Fits bytes (meaning x))
    (λ refusal. Tells refusal (read_answer m page 512) ⊎ (Tells refusal (Refused 10 0) × ((v : V) → Fits v → page_at m page ≡ Live (image v) → ⊥)))

-- a refusal, if there is one, shows damage
abbrev pub RefusesOnlyDamage : {X : Type 0} → Result X Refusal → Type 0
RefusesOnlyDamage r = IfErr r (λ refusal. ShowsDamage (number_of refusal))
