-- Bytes open exactly if they have the layout. Assumes nothing.
use Rattle.std.proofs.Common.{◌≡◌, ℕ, List, Decides, ap, ◌∙◌}
use Rattle.refusals.specs.Refusals.{Accepted, is_accepted}
use Rattle.refusals.proofs.Answering.{accepted_from_test}
use Rattle.numbers.specs.BigEndian.{Bytes}
use Rattle.batches.specs.Layout.{HasLayout}
use Rattle.batches.specs.Opening.{open_answer}
use Rattle.batches.proofs.Filing.{file_opens}
use Rattle.batches.proofs.Refiling.{has_layout}

pub layout_opens : (bytes : List ℕ) → HasLayout bytes → open_answer bytes ≡ Accepted tt
layout_opens bytes has = ap open_answer has.is_the_file ∙ file_opens has.code has.rows has.fits

pub accepted_exactly : (bytes : List ℕ) → Bytes bytes → Decides (is_accepted (open_answer bytes)) (HasLayout bytes)
accepted_exactly bytes real =
    (λ e. has_layout bytes real (accepted_from_test (open_answer bytes) e), λ has. ap is_accepted (layout_opens bytes has))
