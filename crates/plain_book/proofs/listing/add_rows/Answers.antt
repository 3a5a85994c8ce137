use Rattle.std.proofs.Common.{ℕ, List, ◌++◌, get_or, sym, ap, ◌∙◌}
use Rattle.numbers.proofs.Spelling.{eight_bytes_of}
use Rattle.plain_book.proofs.Listings.{add_more}
use Rattle.plain_book.proofs.listing.add_rows.Goals as goal

pub loop-posting-preserved : goal.loop-posting-preserved
loop-posting-preserved c =
    let all = c.loop-posting.all.items in
    add_more c.args.account.now.key.items c.deref-posting-items.result.now c.loop-posting.posting-index c.args.all.now.items all c.extend_from_slice.new.self.items c.extend_from_slice-in-loop-posting.new.self.items
    c.loop-posting-test.true c.loop-posting.invariant
    (c.in_ok-extend_from_slice.ensures.items ∙ ap (λ (x : List ℕ). all ++ x) c.as_slice.ensures.value)
    (c.in_ok-extend_from_slice-2.ensures.items ∙ ap (λ (x : List ℕ). c.extend_from_slice.new.self.items ++ x) (c.to_be_bytes.ensures ∙ sym (eight_bytes_of (get_or c.deref-posting-items.result.now c.loop-posting.posting-index 0))))
