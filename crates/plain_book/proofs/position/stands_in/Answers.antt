use Rattle.std.proofs.Common.{◌∙◌}
use Rattle.plain_book.proofs.Positions.{any_has}
use Rattle.plain_book.proofs.position.stands_in.Goals as goal

pub returns : goal.returns
returns c = c.contains.ensures.value ∙ any_has c.args.n c.args.list.now
