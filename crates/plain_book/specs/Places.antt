-- Where a key stands among entries, or would stand.
use Rattle.std.specs.Prelude.{◌≡◌, ℕ, ◌<◌, ◌≤◌, Bool, true, ◌&&◌, [], length, slice_index_or}
use Rattle.keys.specs.Kinds.{Kind, Field, below}
use Rattle.book.specs.Books.{Held}
use Rattle.book.specs.Entries.{Entry, Entries, paged}

-- whether a lawful field lies below another lawful one
abbrev pub lower : Kind → Field → Field → Bool
lower kind a b = (kind.lawful a && kind.lawful b) && below kind a b

abbrev pub no_held : Held Entry
no_held = record { key = []; value = paged.none }

-- the key of the entry at place i
abbrev pub key_at : Entries → (i : ℕ) → Field
key_at list i = (slice_index_or list i no_held).key

-- the entry at a place has the key, and lower keys stand before it
pub record StandsAt (kind : Kind) (key : Field) (list : Entries) (at : ℕ) : Type 0 where
  pub in_range : at < length list
  pub has_key : key_at list at ≡ key
  pub lower_before : (j : ℕ) → j < at → below kind (key_at list j) key ≡ true

-- the key would stand at a place: lower keys stand before it, and higher ones from it on
pub record GapAt (kind : Kind) (key : Field) (list : Entries) (at : ℕ) : Type 0 where
  pub in_range : at ≤ length list
  pub lower_before : (j : ℕ) → j < at → below kind (key_at list j) key ≡ true
  pub higher_after : (j : ℕ) → at ≤ j → j < length list → below kind key (key_at list j) ≡ true
