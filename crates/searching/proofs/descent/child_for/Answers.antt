use Rattle.std.proofs.Common.{length, Some, ap, ◌∙◌, arith}
use Rattle.std.proofs.lemmas.List.{length-map}
use Rattle.nodes.specs.Few.{items}
use Rattle.nodes.specs.Meanings.{row_of, inner_of}
use Rattle.searching.proofs.Choosing.{meant_there, never_unanswered, stops, goes_on, ends}
use Rattle.searching.proofs.descent.child_for.Goals as goal

pub loop-row-preserved : goal.loop-row-preserved
loop-row-preserved g c =
    let node = c.args.node.now in
    let there = meant_there row_of c.as_slice-row-items.result.now (items node.rows) c.loop-row.row-index c.row-item.result c.as_slice-row-items.ensures.value c.loop-row-test.true c.row-item.is in
    goes_on g.K.KeyKind.kind c.args.key.now (inner_of node) c.loop-row.row-index c.loop-row.child (row_of c.row-item.result) c.loop-row.invariant there c.is_below.result c.is_below.ensures.is_the_order_of_lawful_fields (c.in_ok-is_below.was ∙ ap Some c.if-branch.false)

pub returns-in_err-is_below : goal.returns-in_err-is_below
returns-in_err-is_below g c =
    let node = c.args.node.now in
    let there = meant_there row_of c.as_slice-row-items.result.now (items node.rows) c.loop-row.row-index c.row-item.result c.as_slice-row-items.ensures.value c.loop-row-test.true c.row-item.is in
    record { goes_by_the_separators = λ lk all. absurd (never_unanswered g.K.KeyKind.kind c.args.key.now (inner_of node) c.loop-row.row-index c.loop-row.child (row_of c.row-item.result) c.loop-row.invariant there c.is_below.result c.is_below.ensures.is_the_order_of_lawful_fields c.in_err-is_below.was lk all) }

pub returns-then-branch : goal.returns-then-branch
returns-then-branch g c =
    let node = c.args.node.now in
    let there = meant_there row_of c.as_slice-row-items.result.now (items node.rows) c.loop-row.row-index c.row-item.result c.as_slice-row-items.ensures.value c.loop-row-test.true c.row-item.is in
    record { goes_by_the_separators = λ lk all. ap Some (stops g.K.KeyKind.kind c.args.key.now (inner_of node) c.loop-row.row-index c.loop-row.child (row_of c.row-item.result) c.loop-row.invariant there c.is_below.result c.is_below.ensures.is_the_order_of_lawful_fields (c.in_ok-is_below.was ∙ ap Some c.if-branch.true) lk all) }

pub returns : goal.returns
returns g c =
    let node = c.args.node.now in
    let long = length-map (items node.rows) row_of in
    let same = ap length c.as_slice-row-items.ensures.value in
    let past = c.loop-row-test.false in
    record { goes_by_the_separators = λ lk all. ap Some (ends g.K.KeyKind.kind c.args.key.now (inner_of node) c.loop-row.row-index c.loop-row.child c.loop-row.invariant (omega arith) lk all) }
