use Rattle.std.proofs.Common.{ℕ, ◌+◌, ◌-◌, List, ◌++◌, length, take, ap, ◌∙◌, arith}
use borrow.Rule.Slice.PartMut.{post_of, Post-is}
use Rattle.numbers.proofs.Spelling.{bytes_from_cells}
use Rattle.nodes.proofs.Padding.{written_part}
use Rattle.nodes.proofs.places.put.Goals as goal

pub returns : goal.returns
returns c =
    let page = c.args.page.now in
    let bytes = c.args.bytes.now in
    let at = c.args.at in
    record {
      are_written =
          ap (λ (ys : List ℕ). take at page ++ (ys ++ post_of at (at + length bytes - at) page)) c.copy_from_slice.ensures.after
          ∙ ap (λ (ys : List ℕ). take at page ++ (bytes ++ ys)) (Post-is at (at + length bytes) page (omega arith))
          ∙ written_part page bytes at c.requires.within;
      are_bytes = bytes_from_cells bytes (λ i. let h = c.type_inv.bytes i in omega arith);
    }
