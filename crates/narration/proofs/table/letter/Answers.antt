use Rattle.std.proofs.Common.{refl}
use Rattle.narration.specs.Letters.{fixed_table}
use Rattle.narration.proofs.EachEntry.{table_as_said}
use Rattle.narration.proofs.table.letter.Goals as goal

pub returns-clause-is_in_the_table : goal.returns-clause-is_in_the_table
unfolding fixed_table
returns-clause-is_in_the_table c = refl

pub returns-clause-the_table_is_as_said : goal.returns-clause-the_table_is_as_said
returns-clause-the_table_is_as_said c = table_as_said
