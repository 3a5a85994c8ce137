use Rattle.std.proofs.Common.{◌++◌, ap, ◌∙◌, arith}
use Rattle.std.proofs.lemmas.List.{length-append}
use Rattle.batches.specs.Rows.{row_read}
use Rattle.book_listing.specs.Text.{text_line}
use Rattle.book_listing.specs.Writing.{postings_text}
use Rattle.book_listing.proofs.Texts.{one_added, one_fits, none_left}
use Rattle.book_listing.proofs.listing.put_postings.Goals as goal

pub line-requires : goal.line-requires
line-requires c =
    let old = c.args.text.now in
    let whole = postings_text (row_read c.args.row.now) in
    rw c.word_of-word.ensures
    (omega (arith, one_fits c.args.row.now.key.now c.loop-line.line-iterator.iter c.next.new.self.iter c.in-Some.line c.in-Some.ensures.steps c.loop-line.text (old ++ whole) c.loop-line.invariant.2, length-append old whole))

pub loop-line-preserved : goal.loop-line-preserved
loop-line-preserved c =
    let old = c.args.text.now in
    let whole = postings_text (row_read c.args.row.now) in (
      tt,
      tt,
      ap (λ text. text ++ postings_text (record { key = c.args.row.now.key.now; lines = c.next.new.self.iter })) (c.line.ensures ∙ ap (λ word. c.loop-line.text ++ text_line word c.in-Some.line.number) c.word_of-word.ensures)
          ∙ one_added c.args.row.now.key.now c.loop-line.line-iterator.iter c.next.new.self.iter c.in-Some.line c.in-Some.ensures.steps c.loop-line.text (old ++ whole) c.loop-line.invariant.2,
    )

pub returns : goal.returns
returns c =
    let whole = c.args.text.now ++ postings_text (row_read c.args.row.now) in
    none_left c.args.row.now.key.now c.loop-line.line-iterator.iter c.in-None.ensures.steps.0 c.loop-line.text whole c.loop-line.invariant.2
