use Rattle.std.proofs.Common.{ℕ, List, ◌++◌, length, take, drop, ap, ◌∙◌, arith}
use Rattle.plain_book.specs.Kept.{entries_in}
use Rattle.plain_book.proofs.Lookups.{some_cond, looked_up}
use Rattle.plain_book.proofs.kept.PlainBook.lookup.Goals as goal

pub returns : goal.returns
returns g c = record {
  looks_up_as_said = λ sorted.
      let kind = g.K.KeyKind.kind in
      let list = c.args.list.now in
      let postings = c.in_ok-postings.postings in
      let checked = some_cond (kind.lawful c.args.key.now) c.in-Some.part c.args.key c.in-Some.ensures.is_the_field_if_lawful in
      let seen = c.as_slice.ensures.value in
      looked_up kind (entries_in c.args.self.now) c.args.key.now c.in-Some.part.now list postings.items c.fill-written.new.list c.len.result c.fill-written.result checked.0 (ap (λ x. x.now) checked.1) (c.in_ok-postings.ensures sorted)
      (omega (arith, c.len.ensures, postings.ok.0))
      (c.fill-written.ensures.written ∙ ap (λ (xs : List ℕ). length (take (length list) xs)) seen)
      (c.fill-written.ensures.after ∙ ap (λ (xs : List ℕ). take (length list) xs ++ drop c.fill-written.result list) seen);
}
