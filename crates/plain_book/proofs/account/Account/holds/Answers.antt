use Rattle.std.proofs.Common.{Bool, ◌||◌, List, map, vec_items, ap, ◌∙◌}
use Rattle.std.specs.List.{list_any, flat_map}
use Rattle.book.specs.Books.{has}
use Rattle.plain_book.proofs.Positions.{has_in_chain, has_in_either}
use Rattle.plain_book.proofs.account.Account.holds.Goals as goal

pub returns-then-stands_in : goal.returns-then-stands_in
returns-then-stands_in c =
    let n = c.args.n in
    let inline = c.args.self.now.inline.items in
    let chain = flat_map (λ (r : List _). r) (map vec_items c.args.self.now.records.items) in
    let here = c.if-stands_in.ensures ∙ ap (has n) c.as_slice.ensures.value in
    c.if-stands_in.true ∙ (ap (λ (b : Bool). b || has n chain) here ∙ has_in_either n inline chain)

pub returns-else-stands_in : goal.returns-else-stands_in
returns-else-stands_in c =
    let n = c.args.n in
    let inline = c.args.self.now.inline.items in
    let records = c.args.self.now.records.items in
    let chain = flat_map (λ (r : List _). r) (map vec_items records) in
    let absent = c.if-stands_in.ensures ∙ ap (has n) c.as_slice.ensures.value in
    c.stands_in_any.ensures ∙ (ap (list_any (λ r. has n (vec_items r))) c.as_slice-else-stands_in.ensures.value
    ∙ (has_in_chain vec_items n records ∙ (ap (λ (b : Bool). b || has n chain) absent ∙ has_in_either n inline chain)))
