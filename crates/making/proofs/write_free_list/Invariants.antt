use Rattle.std.proofs.Common.{◌≤◌}
use Rattle.making.proofs.FreeLists.{ListedFrom}
use Rattle.making.proofs.write_free_list.Given as goal

abbrev pub invariant-loop-page : goal.invariant-loop-page
invariant-loop-page g l = (2 ≤ l.page) × ListedFrom (g.S.PageStore.meaning l.store).pages l.fn.pages.count l.page l.next
