use Rattle.std.proofs.Common.{rules}
use Rattle.nodes.proofs.Sorting.{tells}
use Rattle.nodes.proofs.sort.PageSort.of.Goals as goal

pub returns-in_err-first-clause-tells_the_sort_of_every_image : goal.returns-in_err-first-clause-tells_the_sort_of_every_image
returns-in_err-first-clause-tells_the_sort_of_every_image c = tells c.args.page.now c.from_residual.result (search rules)

pub returns-clause-tells_the_sort_of_every_image : goal.returns-clause-tells_the_sort_of_every_image
returns-clause-tells_the_sort_of_every_image c = tells c.args.page.now c.ok.result (search rules)
