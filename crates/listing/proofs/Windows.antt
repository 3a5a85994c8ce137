-- A window that stays over its buffer while rows are put. Assumes nothing.
use Rattle.std.proofs.Common.{◌≡◌, ℕ, List, sym, ap, ◌∙◌}
use Rattle.book.specs.Looking.{Listed}
use Rattle.listing.specs.declared.rows.Window.{Window}
use Rattle.listing.specs.Filling.{filled}
use Rattle.listing.specs.Windows.{with_bytes, Stays}

pub put_stays : (before after : Window) (bytes : List ℕ) → after ≡ with_bytes before bytes → Stays before after
put_stays before after bytes put = put ∙ ap (with_bytes before) (sym (ap (λ (w : Window). w.buffer.now) put))

pub same_skip : (before now' : Window) → Stays before now' → now'.skip ≡ before.skip
same_skip before now' stays = ap (λ (w : Window). w.skip) stays

module _ (before now' after : Window) (stays : Stays before now') where
  pub stays_on : Stays now' after → Stays before after
  stays_on on = on ∙ ap (λ (w : Window). with_bytes w after.buffer.now) stays

  -- rows that are put while it stays are put with the same rows skipped
  pub rows_put : (at : ℕ) (rows : List Listed) → after ≡ with_bytes now' (filled now'.skip at rows now'.buffer.now) → after.buffer.now ≡ filled before.skip at rows now'.buffer.now
  rows_put at rows put = ap (λ (w : Window). w.buffer.now) put ∙ ap (λ (skip : ℕ). filled skip at rows now'.buffer.now) (same_skip before now' stays)
