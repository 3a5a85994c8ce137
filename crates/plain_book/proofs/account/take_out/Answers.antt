use Rattle.std.proofs.Common.{List, map, get_or-set_same, length, vec_items, vec_len, ap, sym, ◌∙◌, arith}
use Rattle.std.specs.List.{position}
use Rattle.std.proofs.lemmas.Bool.{eqb-true, eqb-false}
use Rattle.book.specs.Books.{has}
use Rattle.plain_book.proofs.Positions.{place_some, place_none, lacking, front_mapped}
use Rattle.plain_book.proofs.Accounts.{taken_kept, taken_gone, taken_nowhere}
use Rattle.plain_book.proofs.account.take_out.Goals as goal

pub returns-then-is_empty : goal.returns-then-is_empty
returns-then-is_empty c =
    let n = c.args.n in
    let records = c.args.records.now.items in
    let at = c.in-Some.at in
    let place = place_some (λ r. has n (vec_items r)) records at (c.in-Some.ensures ∙ ap (position (λ r. has n (vec_items r))) c.as_slice.ensures.value) in
    ap (λ (rs : List _). map vec_items rs) c.remove.ensures.items
    ∙ taken_gone vec_items n records at c.index_mut.result.now c.take.new.list (place.0 ∙ front_mapped vec_items (lacking n) records) place.1 c.index_mut.ensures.value c.take.ensures
    (let read = c.index.ensures ∙ get_or-set_same records at c.take.new.list c.index.result.now place.1 in omega (arith, ap (λ r. length (vec_items r)) read, eqb-true (vec_len c.index.result.now) 0 (sym c.if-is_empty.ensures), c.index.result.now.ok.0))

pub returns-else-is_empty : goal.returns-else-is_empty
returns-else-is_empty c =
    let n = c.args.n in
    let records = c.args.records.now.items in
    let at = c.in-Some.at in
    let place = place_some (λ r. has n (vec_items r)) records at (c.in-Some.ensures ∙ ap (position (λ r. has n (vec_items r))) c.as_slice.ensures.value) in
    taken_kept vec_items n records at c.index_mut.result.now c.take.new.list (place.0 ∙ front_mapped vec_items (lacking n) records) place.1 c.index_mut.ensures.value c.take.ensures
    (let read = c.index.ensures ∙ get_or-set_same records at c.take.new.list c.index.result.now place.1 in omega (arith, ap (λ r. length (vec_items r)) read, eqb-false (vec_len c.index.result.now) 0 (sym c.if-is_empty.ensures), c.index.result.now.ok.0))

pub returns-in_default : goal.returns-in_default
returns-in_default c =
    let n = c.args.n in
    let records = c.args.records.now.items in
    taken_nowhere vec_items n records
    (rw (← front_mapped vec_items (lacking n) records) (place_none (λ r. has n (vec_items r)) records (c.in_default.ensures ∙ ap (position (λ r. has n (vec_items r))) c.as_slice.ensures.value)))
