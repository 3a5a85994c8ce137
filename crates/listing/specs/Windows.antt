-- The caller's buffer as a window on the rows of a listing.
use Rattle.std.specs.Prelude.{◌≡◌, ℕ, List}
use Rattle.listing.specs.declared.rows.Window.{Window}

-- the same window, with other bytes in its buffer
abbrev pub with_bytes : Window → List ℕ → Window
with_bytes window bytes = record window { buffer = record window.buffer { now = bytes } }

-- a window stays over its buffer, whatever the bytes
abbrev pub Stays : (before after : Window) → Type 0
Stays before after = after ≡ with_bytes before after.buffer.now
