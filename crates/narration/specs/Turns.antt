-- Places where a word or a gap begins.
use Rattle.std.specs.Prelude.{◌≡◌, ℕ, ◌-◌, ◌<◌, not, List, length, slice_index}
use Rattle.narration.specs.Letters.{in_word}

-- the byte before a place is of the other sort than the one there, if both are
abbrev pub Turn : (table narration : List ℕ) → ℕ → Type 0
Turn table narration place =
    0 < place → place < length narration → in_word table (slice_index narration (place - 1)) ≡ not (in_word table (slice_index narration place))
