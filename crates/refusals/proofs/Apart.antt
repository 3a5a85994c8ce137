-- A refusal comes back from its number and its place. Assumes nothing.
use Rattle.std.proofs.Common.{◌≡◌, ℕ, cond, eqb, sym, refl, ap, ◌∙◌}
use Rattle.refusals.specs.declared.Refusal.{Refusal}
use Rattle.refusals.specs.declared.Refusal.TheVariants.{NotOpen, Form, Kind, Key, Line, Stands, Absent, NoPages, Lost, Damaged, Size, Page, Buffer}
use Rattle.refusals.specs.Refusals.{number_of, place_of, NumberAndPlaceTellRefusalsApart}

abbrev refusal_of : ℕ → ℕ → Refusal
refusal_of number place =
    cond (eqb number 1) NotOpen
    (cond (eqb number 2) (Form place)
    (cond (eqb number 3) Kind
    (cond (eqb number 4) (Key place)
    (cond (eqb number 5) (Line place)
    (cond (eqb number 6) (Stands place)
    (cond (eqb number 7) (Absent place)
    (cond (eqb number 8) NoPages
    (cond (eqb number 9) (Lost place)
    (cond (eqb number 10) Damaged
    (cond (eqb number 11) (Size place)
    (cond (eqb number 12) (Page place) (Buffer place))))))))))))

comes_back : (r : Refusal) → refusal_of (number_of r) (place_of r) ≡ r
comes_back NotOpen = refl
comes_back (Form step) = refl
comes_back Kind = refl
comes_back (Key place) = refl
comes_back (Line line) = refl
comes_back (Stands line) = refl
comes_back (Absent line) = refl
comes_back NoPages = refl
comes_back (Lost page) = refl
comes_back Damaged = refl
comes_back (Size count) = refl
comes_back (Page page) = refl
comes_back (Buffer len) = refl

pub tell_apart : NumberAndPlaceTellRefusalsApart
tell_apart a b e f =
    sym (comes_back a) ∙ ap (λ (n : ℕ). refusal_of n (place_of a)) e ∙ ap (refusal_of (number_of b)) f ∙ comes_back b
