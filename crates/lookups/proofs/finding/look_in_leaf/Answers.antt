use Rattle.std.proofs.Common.{refl}
use Rattle.nodes.specs.Meanings.{entry_of}
use Rattle.lookups.proofs.Located.{shows_absent, shows_found}
use Rattle.lookups.proofs.finding.look_in_leaf.Goals as goal

pub returns-in_default-clause-shows_what_the_tree_holds : goal.returns-in_default-clause-shows_what_the_tree_holds
returns-in_default-clause-shows_what_the_tree_holds g c =
    λ entries valid few there.
    shows_absent valid few c.args.key.now.is_lawful there c.args.list.now
    (record { total = 0; written = 0; reads = c.args.descent.now.reads }) c.in_default.ensures.has_the_key refl refl refl

pub returns-clause-shows_what_the_tree_holds : goal.returns-clause-shows_what_the_tree_holds
returns-clause-shows_what_the_tree_holds g c =
    λ entries valid few there.
    shows_found valid few c.args.key.now.is_lawful there c.args.list.now c.show_entry.new.list
    (entry_of c.in-Some.entry.now) c.in-Some.ensures.has_the_key c.show_entry.result c.show_entry.ensures.shows_the_entry
