use Rattle.narration.specs.Letters.{fixed_table}
use Rattle.narration.proofs.WordKeys.{handed_have_keys}
use Rattle.narration.proofs.words.words_have_keys.Goals as goal

pub returns : goal.returns
returns c = record { holds = handed_have_keys fixed_table }
