use Rattle.std.proofs.Common.{rules, tests}
use Rattle.std.specs.Str.{bytes_eq}
use Rattle.std.proofs.lemmas.Iterator.{YieldsList-from_slice}
use Rattle.std.proofs.lemmas.Iterator.Search.{find_from_yields_List}
use Rattle.lookups.proofs.Found.{found_is}
use Rattle.lookups.proofs.finding.entry_among.Goals as goal

pub returns : goal.returns
returns c =
    let entries = c.args.entries.now in
    record {
      has_the_key = found_is c.args.key.now entries c.find.result
          (find_from_yields_List (λ entry. bytes_eq entry.key c.args.key.now) _ _ c.find.result c.find.ensures.ran (YieldsList-from_slice entries c.iter.ensures.rest) (λ x b q k. search (rules, tests)));
    }
