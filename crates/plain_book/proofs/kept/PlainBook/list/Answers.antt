use Rattle.std.proofs.Common.{ℕ, ◌-◌, ◌*◌, ◌/◌, min, List, ◌++◌, length, take, drop, ap, ◌∙◌}
use Rattle.plain_book.specs.Kept.{entries_in}
use Rattle.plain_book.proofs.Lookups.{some_cond}
use Rattle.plain_book.proofs.Listings.{listed_up}
use Rattle.plain_book.proofs.kept.PlainBook.list.Goals as goal

pub returns : goal.returns
returns g c = record {
  lists_as_said = λ sorted.
      let kind = g.K.KeyKind.kind in
      let buffer = c.args.buffer.now in
      let low = some_cond (kind.lawful c.args.first.now) c.in-Some.low c.args.first c.in-Some.ensures.is_the_field_if_lawful in
      let high = some_cond (kind.lawful c.args.second.now) c.in-Some-check.high c.args.second c.in-Some-check.ensures.is_the_field_if_lawful in
      let seen = c.as_slice.ensures.value in
      let count = c.show.result.rows in
      listed_up kind (entries_in c.args.self.now) c.args.first.now c.args.second.now c.args.skip buffer sorted low.0 high.0 c.in-Some.low.now c.in-Some-check.high.now c.in_ok-rows.rows.items c.show.new.buffer c.show.result.total count (ap (λ x. x.now) low.1) (ap (λ x. x.now) high.1)
      (c.in_ok-rows.ensures sorted)
      (c.show.ensures.total ∙ ap (λ (x : List ℕ). length x / 32) seen)
      (c.show.ensures.rows ∙ ap (λ (x : List ℕ). min (length x / 32 - c.args.skip) (length buffer / 32)) seen)
      (c.show.ensures.after ∙ ap (λ (x : List ℕ). take (32 * count) (drop (32 * c.args.skip) x) ++ drop (32 * count) buffer) seen);
}
