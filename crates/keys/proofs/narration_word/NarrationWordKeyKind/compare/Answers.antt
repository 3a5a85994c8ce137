use Rattle.std.proofs.Common.{◌∙◌}
use Rattle.keys.proofs.Lexical.{bytes_say}
use Rattle.keys.proofs.narration_word.NarrationWordKeyKind.compare.Goals as goal

pub returns : goal.returns
returns c = record { is_the_order = c.cmp.ensures ∙ bytes_say c.args.a.now c.args.b.now }
