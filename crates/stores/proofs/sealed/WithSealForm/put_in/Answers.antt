use Rattle.std.proofs.Common.{◌≡◌, ℕ, List, ◌++◌, drop, ap, ◌∙◌, arith}
use Rattle.std.proofs.lemmas.List.{length-drop}
use Rattle.numbers.specs.BigEndian.{bytes_of, written}
use Rattle.stores.specs.Slots.{seal}
use Rattle.stores.proofs.Sealing.{sealed_behind}
use Rattle.stores.proofs.sealed.WithSealForm.put_in.Goals as goal
use Rattle.stores.proofs.sealed.WithSealForm.put_in.Goals.{in-Some, in_default}

pub returns : goal.returns
returns c = record {
  is_the_slot = λ h.
      let slot = c.args.slot.now in
      let page = c.args.page.now in
      let rest = drop 512 slot in
      let front : c.match-first_chunk_mut.slot ≡ page ++ rest =
      elim c.match-first_chunk_mut.branch [
        | in-Some w ↦ w.slot-is ∙ ap (λ x. x ++ rest) w.copy_page.ensures.is_copied
        | in_default w ↦ absurd (omega (arith, w.in_default.ensures.cases))
      ] in
      c.write_at.ensures.is_written_there
      ∙ ap (λ (n : ℕ). written c.match-first_chunk_mut.slot 512 (bytes_of 4 n)) c.seal_of.ensures.is_the_seal
      ∙ ap (λ (x : List ℕ). written x 512 (bytes_of 4 (seal page))) front
      ∙ sealed_behind page rest (omega arith) (simp length-drop (omega arith));
}
