use Rattle.std.proofs.Common.{◌≡◌}
use Rattle.refusals.specs.Refusals.{answer_of}
use Rattle.tree.specs.Valid.{next_free}
use Rattle.making.specs.EmptyTrees.{free_pages}
use Rattle.making.proofs.EmptyPages.{laid_out}
use Rattle.making.proofs.write_empty_tree.Goals as goal

pub returns : goal.returns
returns g c =
    let means = g.S.PageStore.meaning in
    let listed = means c.write_free_list.new.store in
    let rooted = means c.write.new.self in
    let headed = means c.write-2.new.self in
    let first = c.in_ok-first_free.first_free in
    let list = c.in_ok-first_free.ensures in
    let answers = list.answers_its_first_page in
    let starts : first ≡ next_free (free_pages c.args.pages.count) = cc in
    let laid =
    laid_out listed rooted headed c.args.kind_code first c.args.pages.count c.root_page.result c.header_page.result list.keeps_the_count c.args.pages.are_8_or_more starts list.spells_the_list c.root_page.ensures.is_the_empty_leaf c.write.ensures.changes_that_page c.header_page.ensures.is_the_header c.write-2.ensures.changes_that_page (answer_of c.write-2.result) c.write-2.ensures.answers_by_the_meaning in
    record { is_accepted = laid.is_accepted; keeps_the_count = laid.keeps_the_count; is_a_tree_of_no_entries = laid.is_a_tree_of_no_entries }
