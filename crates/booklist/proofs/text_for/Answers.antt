use Rattle.std.proofs.Common.{◌≤◌, length, rules}
use Rattle.book_listing.specs.Text.{booklist_text}
use Rattle.booklist.proofs.Reading.{count_within, text_found}
use Rattle.booklist.proofs.text_for.Goals as goal

pub slice_bounds-result-end : goal.slice_bounds-result-end
slice_bounds-result-end c =
    let within : c.in-Ok.count ≤ length c.booklist.new.out = count_within c.in-Ok.count (booklist_text c.args.input.now) c.args.out.now c.booklist.new.out c.requires.has_room c.in-Ok.ensures.wants_364_bytes_then_answers_how_many_were_written c.in-Ok.ensures.writes_the_text_or_nothing c.booklist.auto.out in
    search rules

pub returns-in-Ok : goal.returns-in-Ok
returns-in-Ok c =
    record {
      is_the_text = text_found c.in-Ok.count (booklist_text c.args.input.now) c.args.out.now c.booklist.new.out c.requires.has_room c.in-Ok.ensures.wants_364_bytes_then_answers_how_many_were_written c.in-Ok.ensures.writes_the_text_or_nothing;
    }
