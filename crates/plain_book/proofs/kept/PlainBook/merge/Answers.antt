use Rattle.std.proofs.Common.{ℕ, List, refl, ap, subst, arith}
use Rattle.std.proofs.lemmas.List.{length-map}
use Rattle.std.proofs.lemmas.Result.{err_from_is_err_and}
use Rattle.refusals.specs.Refusals.{number_of, place_of}
use Rattle.batches.specs.Reading.{rows_in, kind_code}
use Rattle.book.specs.Merging.{RowsRise}
use Rattle.plain_book.specs.Accounts.{held_in}
use Rattle.plain_book.specs.Kept.{entries_in}
use Rattle.plain_book.proofs.LineByLine.{merge_refused, merge_accepted}
use Rattle.plain_book.proofs.kept.PlainBook.merge.Goals as goal

pub returns-in_err-check-clause-merges_as_said_of_entries : goal.returns-in_err-check-clause-merges_as_said_of_entries
returns-in_err-check-clause-merges_as_said_of_entries g c sorted =
    let kind = g.K.KeyKind.kind in
    let bytes = c.args.batch.now.bytes.now in
    let rise = subst (λ (b : List ℕ). RowsRise (rows_in b)) (ap (λ x. x.now) c.bytes.ensures.are_those_handed_in) c.numbers_rise.ensures in
    let p = err_from_is_err_and c.from_residual.result c.from_residual.ensures.1 in
    let refusal = c.in_err-check.field-0.0 in
    rw (p.1, p.2) (merge_refused kind c.args.free (kind_code bytes) (rows_in bytes) (entries_in c.args.self.now) (number_of refusal) (place_of refusal) rise sorted (c.in_err-check.ensures.answers sorted), refl)

pub returns-clause-merges_as_said_of_entries : goal.returns-clause-merges_as_said_of_entries
returns-clause-merges_as_said_of_entries g c sorted =
    let kind = g.K.KeyKind.kind in
    let bytes = c.args.batch.now.bytes.now in
    let rise = subst (λ (b : List ℕ). RowsRise (rows_in b)) (ap (λ x. x.now) c.bytes.ensures.are_those_handed_in) c.numbers_rise.ensures in (
      merge_accepted kind c.args.free (kind_code bytes) (rows_in bytes) (entries_in c.args.self.now) (entries_in c.take_lines.new.self) rise sorted (c.in_ok-check.ensures.answers sorted) (c.in_ok-take_lines.ensures.taken sorted),
      omega (arith, c.len.ensures, c.take_lines.new.self.accounts.ok.0, length-map c.take_lines.new.self.accounts.items held_in),
    )
