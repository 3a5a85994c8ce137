use Rattle.std.proofs.Common.{◌≡◌, ℕ, ◌+◌, None, refl, ap, ◌∙◌, subst, arith}
use Rattle.std.specs.Result.{result_ok}
use Rattle.page_store.specs.Meanings.{Meaning}
use Rattle.nodes.specs.Layout.{inner_image, InnerFits, leaf_image, LeafFits}
use Rattle.nodes.specs.Meanings.{inner_of, leaf_of}
use Rattle.searching.specs.declared.arrival.Descent.{Descent}
use Rattle.searching.specs.NodeReads.{NodeRead}
use Rattle.searching.proofs.Onwards.{onward_start, onward_more, node_is_read, child_is_chosen, leaf_is_read, arrives}
use Rattle.searching.proofs.descent.way_down.Goals as goal

pub loop-level-init : goal.loop-level-init
loop-level-init g c = (refl, onward_start g.K.KeyKind.kind (g.S.PageStore.meaning c.args.store.now) c.args.key.now c.args.root c.args.height, omega arith, refl)

pub loop-level-preserved : goal.loop-level-preserved
loop-level-preserved g c =
    let m = g.S.PageStore.meaning c.args.store.now in
    let same = c.loop-level.invariant.0 in
    let read : NodeRead inner_image InnerFits inner_of m c.loop-level.page c.read_node.result = subst (λ (k : Meaning). NodeRead inner_image InnerFits inner_of k c.loop-level.page c.read_node.result) same c.read_node.ensures.reads_what_stands_there in (
      c.read_node.ensures.keeps_the_meaning ∙ same,
      onward_more g.K.KeyKind.kind m c.args.key.now c.args.root c.args.height c.loop-level._level c.loop-level.page c.loop-level.invariant.1 c.loop-level-test.true c.in_ok-node.node c.read_node.result read c.in_ok-node.was c.child_for.result c.in_ok-page.page (c.ok_or.ensures.ok_part ∙ ap result_ok c.in_ok-page.was) c.child_for.ensures.goes_by_the_separators,
      (let h = c.loop-level-test.true in omega (arith, c.ranges.height.fits)),
      (let e = c.loop-level.invariant.3 in omega arith),
    )

pub returns-in_err-node-clause-arrives : goal.returns-in_err-node-clause-arrives
returns-in_err-node-clause-arrives g c =
    let m = g.S.PageStore.meaning c.args.store.now in
    let read : NodeRead inner_image InnerFits inner_of m c.loop-level.page c.read_node.result = subst (λ (k : Meaning). NodeRead inner_image InnerFits inner_of k c.loop-level.page c.read_node.result) c.loop-level.invariant.0 c.read_node.ensures.reads_what_stands_there in
    λ entries valid few root height lawful. absurd (node_is_read g.K.KeyKind.kind m c.args.key.now c.args.root c.args.height c.loop-level._level c.loop-level.page c.loop-level.invariant.1 entries valid (record { few = few; from_its_root = root; of_its_height = height; lawful = lawful }) c.loop-level-test.true c.in_err-node.field-0.0 c.read_node.result read c.in_err-node.was)

pub returns-in_err-page-clause-arrives : goal.returns-in_err-page-clause-arrives
returns-in_err-page-clause-arrives g c =
    let m = g.S.PageStore.meaning c.args.store.now in
    let read : NodeRead inner_image InnerFits inner_of m c.loop-level.page c.read_node.result = subst (λ (k : Meaning). NodeRead inner_image InnerFits inner_of k c.loop-level.page c.read_node.result) c.loop-level.invariant.0 c.read_node.ensures.reads_what_stands_there in
    λ entries valid few root height lawful.
    let chosen = child_is_chosen g.K.KeyKind.kind m c.args.key.now c.args.root c.args.height c.loop-level._level c.loop-level.page c.loop-level.invariant.1 entries valid (record { few = few; from_its_root = root; of_its_height = height; lawful = lawful }) c.loop-level-test.true c.in_ok-node.node c.read_node.result read c.in_ok-node.was c.child_for.result c.child_for.ensures.goes_by_the_separators in
    let none : c.child_for.result ≡ None = c.ok_or.ensures.ok_part ∙ ap result_ok c.in_err-page.was in
    let z : ◌≡◌ {A = ℕ} 0 1 = cc in absurd (omega arith)

pub returns-in_err-leaf-clause-arrives : goal.returns-in_err-leaf-clause-arrives
returns-in_err-leaf-clause-arrives g c =
    let m = g.S.PageStore.meaning c.args.store.now in
    let read : NodeRead leaf_image LeafFits leaf_of m c.loop-level.page c.read_node-2.result = subst (λ (k : Meaning). NodeRead leaf_image LeafFits leaf_of k c.loop-level.page c.read_node-2.result) c.loop-level.invariant.0 c.read_node-2.ensures.reads_what_stands_there in
    λ entries valid few root height lawful. absurd (leaf_is_read g.K.KeyKind.kind m c.args.key.now c.args.root c.args.height c.loop-level._level c.loop-level.page c.loop-level.invariant.1 c.loop-level-test.false entries valid (record { few = few; from_its_root = root; of_its_height = height; lawful = lawful }) c.in_err-leaf.field-0.0 c.read_node-2.result read c.in_err-leaf.was)

pub returns-clause-arrives : goal.returns-clause-arrives
returns-clause-arrives g c =
    let m = g.S.PageStore.meaning c.args.store.now in
    let read : NodeRead leaf_image LeafFits leaf_of m c.loop-level.page c.read_node-2.result = subst (λ (k : Meaning). NodeRead leaf_image LeafFits leaf_of k c.loop-level.page c.read_node-2.result) c.loop-level.invariant.0 c.read_node-2.ensures.reads_what_stands_there in
    let past = c.loop-level-test.false in
    let d : Descent = record { leaf = c.in_ok-leaf.leaf; reads = c.loop-level.reads + 1 } in
    λ entries valid few root height lawful. arrives g.K.KeyKind.kind m c.args.key.now c.args.root c.args.height c.loop-level._level c.loop-level.page c.loop-level.invariant.1 past entries valid (record { few = few; from_its_root = root; of_its_height = height; lawful = lawful }) d c.read_node-2.result read c.in_ok-leaf.was c.loop-level.invariant.3
