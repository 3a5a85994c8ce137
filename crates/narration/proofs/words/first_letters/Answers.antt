use Rattle.std.proofs.Common.{map, rules}
use Rattle.narration.specs.Letters.{mapped, fixed_table}
use Rattle.narration.proofs.WordKeys.{front_then_zeros}
use Rattle.narration.proofs.words.first_letters.Goals as goal

pub returns : goal.returns
returns c =
    let items = c.from_fn.ensures.items in
    record { is_the_key = front_then_zeros 24 (map (mapped fixed_table) c.args.word.now) c.from_fn.result items.long (λ k h. let (f, g, told) = items.at k 0 h in search rules) }
