use Rattle.narration.specs.Letters.{fixed_table}
use Rattle.narration.proofs.WordKeys.{fixed_lettered, key_lawful}
use Rattle.narration.proofs.words.key_is_lawful.Goals as goal

pub returns : goal.returns
returns c = record { holds = key_lawful fixed_table fixed_lettered c.args.word.now c.requires.is_a_word }
