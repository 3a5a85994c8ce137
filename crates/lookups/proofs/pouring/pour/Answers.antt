use Rattle.std.proofs.Common.{ℕ, ◌+◌, ◌-◌, List, ◌++◌, take, ap, ◌∙◌, arith}
use borrow.Rule.Slice.PartMut.{post_of, Post-is}
use Rattle.lookups.proofs.Pourings.{poured_over}
use Rattle.lookups.proofs.pouring.pour.Goals as goal

pub returns : goal.returns
returns c =
    let list = c.args.list.now in
    let start = c.min-start.result in
    let count = c.min-count.result in
    record {
      writes_what_fits =
          ap (λ (ys : List ℕ). take start list ++ (ys ++ post_of start (start + count - start) list)) c.copy_from_slice.ensures.after
          ∙ ap (λ (ys : List ℕ). take start list ++ (take count c.args.postings.now ++ ys)) (Post-is start (start + count) list (omega arith))
          ∙ poured_over c.args.place start count c.args.postings.now list c.min-start.ensures c.min-count.ensures;
    }
