-- The number and the place of each refusal, and what a call answers. Every promise about a refusal reads these.
use Rattle.std.specs.Prelude.{◌≡◌, ℕ, Bool, true, false, cond, Ok, Err, Result}
use Rattle.refusals.specs.declared.Refusal.{Refusal}
use Rattle.refusals.specs.declared.Refusal.TheVariants.{NotOpen, Form, Kind, Key, Line, Stands, Absent, NoPages, Lost, Damaged, Size, Page, Buffer}

abbrev pub number_of : Refusal → ℕ
number_of NotOpen = 1
number_of (Form step) = 2
number_of Kind = 3
number_of (Key place) = 4
number_of (Line line) = 5
number_of (Stands line) = 6
number_of (Absent line) = 7
number_of NoPages = 8
number_of (Lost page) = 9
number_of Damaged = 10
number_of (Size count) = 11
number_of (Page page) = 12
number_of (Buffer len) = 13

abbrev pub place_of : Refusal → ℕ
place_of NotOpen = 0
place_of (Form step) = step
place_of Kind = 0
place_of (Key place) = place
place_of (Line line) = line
place_of (Stands line) = line
place_of (Absent line) = line
place_of NoPages = 0
place_of (Lost page) = page
place_of Damaged = 0
place_of (Size count) = count
place_of (Page page) = page
place_of (Buffer len) = len

-- what a call answers: a value, or a refusal's number and place
pub data Answer (A : Type 0) : Type 0 where
  Accepted : A → Answer A
  Refused : (number place : ℕ) → Answer A

abbrev pub answer_of : {A : Type 0} → Result A Refusal → Answer A
answer_of (Ok value) = Accepted value
answer_of (Err refusal) = Refused (number_of refusal) (place_of refusal)

-- a rule: refused with this number and place unless it is met
abbrev pub wants : (met : Bool) → (number place : ℕ) → Answer Unit
wants met number place = cond met (Accepted tt) (Refused number place)

-- one rule before the others: the first refusal stands
abbrev pub and_then : {A : Type 0} → Answer Unit → Answer A → Answer A
and_then (Accepted met) rest = rest
and_then (Refused number place) rest = Refused number place

abbrev pub is_accepted : {A : Type 0} → Answer A → Bool
is_accepted (Accepted value) = true
is_accepted (Refused number place) = false

-- one of two, by whether an answer accepts: what a call leaves when accepted, and what it leaves when refused
abbrev pub on_accepted : {A X : Type 0} → Answer A → X → X → X
on_accepted (Accepted value) x y = x
on_accepted (Refused number place) x y = y

-- two refusals with one number and one place are the same
abbrev pub NumberAndPlaceTellRefusalsApart : Type 0
NumberAndPlaceTellRefusalsApart = (a b : Refusal) → number_of a ≡ number_of b → place_of a ≡ place_of b → a ≡ b
