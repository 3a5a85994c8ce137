-- Rows that an executable book may take.
use Rattle.std.specs.Prelude.{◌≡◌, true, List, []}
use Rattle.std.specs.List.{AllByRecursion}
use Rattle.keys.specs.Kinds.{Kind}
use Rattle.batches.specs.declared.line.Sign.TheVariants.{Posting}
use Rattle.batches.specs.Layout.{Row}
use Rattle.book.specs.Merging.{Booking}

-- each row has a lawful key
abbrev pub LawfulKeys : Kind → List Row → Type 0
LawfulKeys kind rows = AllByRecursion (λ (row : Row). kind.lawful row.key ≡ true) rows

-- what stands past the last line
abbrev pub no_booking : Booking
no_booking = record { key = []; sign = Posting; number = 0 }
