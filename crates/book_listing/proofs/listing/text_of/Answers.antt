use Rattle.std.proofs.Common.{◌++◌, length, decimal, sym, ap, ◌∙◌, arith}
use Rattle.refusals.specs.Refusals.{number_of, place_of}
use Rattle.numbers.proofs.Spelling.{bytes_from_cells}
use Rattle.batches.specs.Reading.{rows_in}
use Rattle.book_listing.specs.Text.{booklist_answer, booklist_text, text_line}
use Rattle.book_listing.specs.Writing.{batch_text}
use Rattle.book_listing.proofs.Texts.{short_refusal}
use Rattle.book_listing.proofs.Judged.{taken, refused_text}
use Rattle.book_listing.proofs.listing.text_of.Goals as goal

pub make-batch-requires : goal.make-batch-requires
make-batch-requires c =
    let input = c.args.input.now in
    record { was_checked = (taken input (bytes_from_cells input (λ i. (c.type_inv.input i).fits)) c.in-Ok.ensures).opened }

pub batch_text-text-requires : goal.batch_text-text-requires
batch_text-text-requires c =
    let input = c.args.input.now in
    let it = taken input (bytes_from_cells input (λ i. (c.type_inv.input i).fits)) c.in-Ok.ensures in
    let same = ap (λ b. length (batch_text (rows_in b.now))) c.make-batch.ensures.is_over_these_bytes in
    let short = it.short in
    omega arith

pub numbers-requires : goal.numbers-requires
numbers-requires c = omega (arith, short_refusal c.from.result c.place.result (omega arith) (omega arith), ap length c.new-text.ensures)

pub returns-in-Ok : goal.returns-in-Ok
returns-in-Ok c =
    let input = c.args.input.now in
    let it = taken input (bytes_from_cells input (λ i. (c.type_inv.input i).fits)) c.in-Ok.ensures in
    c.batch_text-text.ensures ∙ ap (λ b. batch_text (rows_in b.now)) c.make-batch.ensures.is_over_these_bytes ∙ sym it.text

pub returns-in-Err : goal.returns-in-Err
unfolding booklist_text
returns-in-Err c =
    let refusal = c.in-Err.refusal in
    c.numbers.ensures
    ∙ ap (λ text. text ++ text_line (decimal c.from.result) c.place.result) c.new-text.ensures
    ∙ ap (λ n. text_line (decimal n) c.place.result) (c.from.ensures ∙ c.number.ensures.is_the_number)
    ∙ ap (text_line (decimal (number_of refusal))) c.place.ensures.is_the_place
    ∙ sym (refused_text (booklist_answer c.args.input.now) (number_of refusal) (place_of refusal) c.in-Err.ensures)
