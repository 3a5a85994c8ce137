use Rattle.std.proofs.Common.{◌+◌, ◌≤◌, length, refl, ◌∙◌, subst, inl, inr, arith}
use Rattle.page_store.specs.Meanings.{Meaning}
use Rattle.nodes.specs.Layout.{record_image, RecordFits}
use Rattle.nodes.specs.Meanings.{record_of}
use Rattle.searching.specs.NodeReads.{NodeRead}
use Rattle.lookups.proofs.Chains.{record_is_read, left_more, left_none}
use Rattle.lookups.proofs.pouring.pour_chain.Goals as goal

pub loop-step-preserved : goal.loop-step-preserved
loop-step-preserved g c =
    let m = g.S.PageStore.meaning c.args.store.now in
    let so_far = c.loop-step.invariant in
    let read : NodeRead record_image RecordFits record_of m c.loop-step.page c.read_node.result = subst (λ (k : Meaning). NodeRead record_image RecordFits record_of k c.loop-step.page c.read_node.result) so_far.same_meaning c.read_node.ensures.reads_what_stands_there in
    let postings = c.as_slice-postings.result.now in
    let most = c.as_slice-postings.ensures.fits in
    let counted = so_far.counted in
    let placed = so_far.placed in
    record {
      same_meaning = c.read_node.ensures.keeps_the_meaning ∙ so_far.same_meaning;
      counted = omega arith;
      placed = omega arith;
      so_far = record {
        goes = λ records chain few.
            left_more m (omega arith) read c.in_ok-record.was c.as_slice-postings.ensures.value
            (record { records = c.loop-step.end.records + 1; place = c.loop-step.end.place + length postings }) refl refl c.pour.ensures.writes_what_fits (so_far.so_far.goes records chain few);
      };
    }

pub returns-then-page-eq0-clause-pours_the_chain : goal.returns-then-page-eq0-clause-pours_the_chain
returns-then-page-eq0-clause-pours_the_chain g c =
    λ records chain few.
    let enough : length records ≤ c.count-count.result = (let n = c.count-count.ensures.is_the_count in omega arith) in
    left_none (g.S.PageStore.meaning c.args.store.now) (inl c.if-page-eq0.true) enough (c.loop-step.invariant.so_far.goes records chain enough)

pub returns-in_err-record-clause-pours_the_chain : goal.returns-in_err-record-clause-pours_the_chain
returns-in_err-record-clause-pours_the_chain g c =
    let m = g.S.PageStore.meaning c.args.store.now in
    let read : NodeRead record_image RecordFits record_of m c.loop-step.page c.read_node.result = subst (λ (k : Meaning). NodeRead record_image RecordFits record_of k c.loop-step.page c.read_node.result) c.loop-step.invariant.same_meaning c.read_node.ensures.reads_what_stands_there in
    λ records chain few.
    absurd (record_is_read m (omega arith) read c.in_err-record.was
    (c.loop-step.invariant.so_far.goes records chain (let n = c.count-count.ensures.is_the_count in omega arith)))

pub returns-clause-pours_the_chain : goal.returns-clause-pours_the_chain
returns-clause-pours_the_chain g c =
    λ records chain few.
    let enough : length records ≤ c.count-count.result = (let n = c.count-count.ensures.is_the_count in omega arith) in
    left_none (g.S.PageStore.meaning c.args.store.now) (inr (let k = c.loop-step.invariant.counted in let past = c.loop-step-test.false in omega arith)) enough (c.loop-step.invariant.so_far.goes records chain enough)
