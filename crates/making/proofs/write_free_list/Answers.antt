use Rattle.std.proofs.Common.{◌≡◌, ◌-◌, ap, arith}
use Rattle.refusals.specs.Refusals.{Accepted}
use Rattle.making.proofs.FreeLists.{ListedFrom, listed_more}
use Rattle.making.proofs.write_free_list.Goals as goal

pub loop-page-preserved : goal.loop-page-preserved
loop-page-preserved g c =
    let means = g.S.PageStore.meaning in
    let before = means c.loop-page.store in
    let after = means c.write.new.self in
    let from = c.loop-page.page in (
      omega arith,
      listed_more before after c.args.pages.count (from - 1) from c.loop-page.next c.encode.result (omega arith) (omega arith) c.encode.ensures.is_its_page.spells c.write.ensures.changes_that_page c.loop-page.invariant.1,
    )

pub returns : goal.returns
returns g c =
    let first : c.loop-page.page ≡ 2 = omega (arith, c.loop-page.invariant.0) in
    let listed : ListedFrom (g.S.PageStore.meaning c.loop-page.store).pages c.args.pages.count 2 c.loop-page.next = rw first at c.loop-page.invariant.1 in
    record {
      answers_its_first_page = ap Accepted listed.starts_there;
      keeps_the_count = listed.keeps_the_count;
      spells_the_list = listed.is_spelled;
    }
