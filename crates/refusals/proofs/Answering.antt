-- Rules one after another: what an accepted or a refused answer tells. Assumes nothing.
use Rattle.std.proofs.Common.{◌≡◌, ℕ, Bool, true, false, sym, refl, ap, arith}
use Rattle.refusals.specs.Refusals.{Answer, Accepted, Refused, wants, and_then, is_accepted}

pub never_both : {A : Type 0} (value : A) (number place : ℕ) → ◌≡◌ {A = Answer A} (Accepted value) (Refused number place) → ⊥
never_both value number place e = let z : ◌≡◌ {A = ℕ} 0 1 = cc in omega arith

-- a rule that is accepted is met
pub met_from_accepted : (met : Bool) (number place : ℕ) → wants met number place ≡ Accepted tt → met ≡ true
met_from_accepted true number place e = refl
met_from_accepted false number place e = absurd (never_both tt number place (sym e))

-- where all is accepted, so is the first rule, and what follows
pub first_accepted : {A : Type 0} (first : Answer Unit) (rest : Answer A) (value : A) → and_then first rest ≡ Accepted value → first ≡ Accepted tt
first_accepted (Accepted tt) rest value e = refl
first_accepted (Refused number place) rest value e = absurd (never_both value number place (sym e))

pub rest_accepted : {A : Type 0} (first : Answer Unit) (rest : Answer A) (value : A) → and_then first rest ≡ Accepted value → rest ≡ Accepted value
rest_accepted (Accepted tt) rest value e = e
rest_accepted (Refused number place) rest value e = absurd (never_both value number place (sym e))

-- an answer without a value, by whether it is accepted
pub accepted_from_test : (answer : Answer Unit) → is_accepted answer ≡ true → answer ≡ Accepted tt
accepted_from_test (Accepted tt) e = refl
accepted_from_test (Refused number place) e = absurd (let z : ◌≡◌ {A = ℕ} 0 1 = cc in omega arith)

pub test_from_accepted : {A : Type 0} (answer : Answer A) (value : A) → answer ≡ Accepted value → is_accepted answer ≡ true
test_from_accepted answer value e = ap is_accepted e
