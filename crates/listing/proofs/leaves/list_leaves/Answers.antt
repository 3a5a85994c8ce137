use Rattle.std.proofs.Common.{ℕ, ◌+◌, ◌≤◌, Ok, refl, ap, ◌∙◌, subst, arith}
use Rattle.std.specs.declared.ops.ControlFlow.{ControlFlow}
use Rattle.std.proofs.lemmas.Result.{IfOk-at_ok}
use Rattle.page_store.specs.Meanings.{Meaning}
use Rattle.nodes.specs.Layout.{leaf_image, LeafFits}
use Rattle.nodes.specs.Meanings.{leaf_of}
use Rattle.searching.specs.NodeReads.{NodeRead}
use Rattle.listing.specs.Walks.{most_in_leaf, row_after}
use Rattle.listing.proofs.Windows.{stays_on}
use Rattle.listing.proofs.Told.{leaf_told}
use Rattle.listing.proofs.LeavesSteps.{leaves_start, leaves_more, leaves_broken, leaves_end, leaf_never_refused, next_is_read, leaves_never_so_many}
use Rattle.listing.proofs.leaves.list_leaves.Goals as goal

pub loop-step-init : goal.loop-step-init
loop-step-init g c =
    record { same_meaning = refl; stays = refl; few = omega arith; so_far = leaves_start }

pub returns-in_err-total-clause-walks_the_leaves : goal.returns-in_err-total-clause-walks_the_leaves
returns-in_err-total-clause-walks_the_leaves g c =
    let m = g.S.PageStore.meaning c.args.store.now in
    let window = c.args.window.now in
    let here = c.loop-step.window in
    let so_far = c.loop-step.invariant in
    let walked = leaf_told m (g.S.PageStore.meaning c.loop-step.store) window here so_far.same_meaning so_far.stays c.list_leaf.ensures.walks_the_leaf in
    record {
      puts_their_rows = λ leaf right is readable.
          absurd (leaf_never_refused m so_far.so_far walked
          (record { is_it = is; readable = readable }) c.in_err-total.was);
    }

pub returns-in-Break-clause-walks_the_leaves : goal.returns-in-Break-clause-walks_the_leaves
returns-in-Break-clause-walks_the_leaves g c =
    let m = g.S.PageStore.meaning c.args.store.now in
    let window = c.args.window.now in
    let here = c.loop-step.window in
    let so_far = c.loop-step.invariant in
    let walked = leaf_told m (g.S.PageStore.meaning c.loop-step.store) window here so_far.same_meaning so_far.stays c.list_leaf.ensures.walks_the_leaf in
    record {
      puts_their_rows = λ leaf right is readable.
          leaves_broken m so_far.so_far walked
          (record { is_it = is; readable = readable }) (c.in_ok-total.was ∙ ap Ok c.in-Break.is) refl;
    }

pub returns-then-right-eq0-clause-walks_the_leaves : goal.returns-then-right-eq0-clause-walks_the_leaves
returns-then-right-eq0-clause-walks_the_leaves g c =
    let m = g.S.PageStore.meaning c.args.store.now in
    let window = c.args.window.now in
    let here = c.loop-step.window in
    let so_far = c.loop-step.invariant in
    let walked = leaf_told m (g.S.PageStore.meaning c.loop-step.store) window here so_far.same_meaning so_far.stays c.list_leaf.ensures.walks_the_leaf in
    record {
      puts_their_rows = λ leaf right is readable.
          leaves_end m so_far.so_far walked
          (record { is_it = is; readable = readable }) (c.in_ok-total.was ∙ ap Ok c.in-Continue.is) c.if-right-eq0.true;
    }

pub returns-in_err-leaf-clause-walks_the_leaves : goal.returns-in_err-leaf-clause-walks_the_leaves
returns-in_err-leaf-clause-walks_the_leaves g c =
    let m = g.S.PageStore.meaning c.args.store.now in
    let window = c.args.window.now in
    let here = c.loop-step.window in
    let so_far = c.loop-step.invariant in
    let walked = leaf_told m (g.S.PageStore.meaning c.loop-step.store) window here so_far.same_meaning so_far.stays c.list_leaf.ensures.walks_the_leaf in
    let same = c.list_leaf.ensures.keeps_the_meaning ∙ so_far.same_meaning in
    let read = subst (λ (k : Meaning). NodeRead leaf_image LeafFits leaf_of k c.loop-step.leaf.next c.read_node.result) same c.read_node.ensures.reads_what_stands_there in
    record {
      puts_their_rows = λ leaf right is readable.
          absurd (next_is_read m so_far.so_far walked
          (record { is_it = is; readable = readable }) (c.in_ok-total.was ∙ ap Ok c.in-Continue.is) c.if-right-eq0.false read c.in_err-leaf.was);
    }

pub loop-step-preserved : goal.loop-step-preserved
loop-step-preserved g c =
    let m = g.S.PageStore.meaning c.args.store.now in
    let window = c.args.window.now in
    let here = c.loop-step.window in
    let so_far = c.loop-step.invariant in
    let few = so_far.few in
    let walked = leaf_told m (g.S.PageStore.meaning c.loop-step.store) window here so_far.same_meaning so_far.stays c.list_leaf.ensures.walks_the_leaf in
    let same = c.list_leaf.ensures.keeps_the_meaning ∙ so_far.same_meaning in
    let read = subst (λ (k : Meaning). NodeRead leaf_image LeafFits leaf_of k c.loop-step.leaf.next c.read_node.result) same c.read_node.ensures.reads_what_stands_there in
    let goes_on = c.in_ok-total.was ∙ ap Ok c.in-Continue.is in
    let more = IfOk-at_ok (λ (flow : ControlFlow ℕ ℕ). row_after flow ≤ c.loop-step.next + most_in_leaf) goes_on c.list_leaf.ensures.counts_few in
    record {
      same_meaning = c.read_node.ensures.keeps_the_meaning ∙ same;
      stays = stays_on window here c.list_leaf.new.window so_far.stays c.list_leaf.ensures.stays_over_the_buffer;
      few = omega arith;
      so_far =
          leaves_more m so_far.so_far walked
          goes_on c.if-right-eq0.false read c.in_ok-leaf.was;
    }

pub returns-clause-walks_the_leaves : goal.returns-clause-walks_the_leaves
returns-clause-walks_the_leaves g c =
    let past = c.loop-step-test.false in
    let is = c.count-count.ensures.is_the_count in
    record {
      puts_their_rows = λ leaf right is readable.
          leaves_never_so_many (g.S.PageStore.meaning c.args.store.now) c.loop-step.invariant.so_far
          (record { is_it = is; readable = readable }) (let count = c.count-count.ensures.is_the_count in omega arith);
    }
