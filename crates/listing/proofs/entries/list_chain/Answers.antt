use Rattle.std.proofs.Common.{ℕ, length, sym, refl, ap, ◌∙◌, subst, arith}
use Rattle.page_store.specs.Meanings.{Meaning}
use Rattle.nodes.specs.Layout.{record_image, RecordFits}
use Rattle.nodes.specs.Meanings.{record_of}
use Rattle.searching.specs.NodeReads.{NodeRead}
use Rattle.listing.specs.Filling.{rows_of, is_past, filled}
use Rattle.listing.proofs.Windows.{put_stays, same_skip, stays_on, rows_put}
use Rattle.listing.proofs.ChainSteps.{chain_start, chain_more, chain_ends, chain_is_past, chain_never_so_long, record_is_read}
use Rattle.listing.proofs.entries.list_chain.Goals as goal
use Rattle.listing.proofs.entries.list_chain.Goals.{then-page-eq0-via-then-page-eq0, then-page-eq0-via-else-page-eq0+then-is_past}

pub loop-step-init : goal.loop-step-init
loop-step-init g c =
    record { same_meaning = refl; stays = refl; few = omega arith; so_far = chain_start }

pub returns-then-page-eq0 : goal.returns-then-page-eq0
returns-then-page-eq0 g c =
    let m = g.S.PageStore.meaning c.args.store.now in
    let window = c.args.window.now in
    let here = c.loop-step.window in
    let so_far = c.loop-step.invariant in
    record {
      keeps_the_meaning = so_far.same_meaning;
      stays_over_the_buffer = so_far.stays;
      walks_the_chain = record {
        puts_its_rows = λ records readable.
            elim c.then-page-eq0.branch [
              | then-page-eq0-via-then-page-eq0 w ↦ chain_ends m so_far.so_far readable w.if-page-eq0.true
              | then-page-eq0-via-else-page-eq0+then-is_past w ↦ chain_is_past m so_far.so_far readable (omega arith)
                  (ap (λ (skip : ℕ). is_past skip (length here.buffer.now) c.loop-step.next) (sym (same_skip window here so_far.stays)) ∙ sym w.is_past.ensures.tells_the_end ∙ w.if-is_past.true)
            ];
      };
    }

pub returns-in_err-record : goal.returns-in_err-record
returns-in_err-record g c =
    let m = g.S.PageStore.meaning c.args.store.now in
    let so_far = c.loop-step.invariant in
    let read : NodeRead record_image RecordFits record_of m c.loop-step.page c.read_node.result = subst (λ (k : Meaning). NodeRead record_image RecordFits record_of k c.loop-step.page c.read_node.result) so_far.same_meaning c.read_node.ensures.reads_what_stands_there in
    record {
      keeps_the_meaning = c.read_node.ensures.keeps_the_meaning ∙ so_far.same_meaning;
      stays_over_the_buffer = so_far.stays;
      walks_the_chain = record {
        puts_its_rows = λ records readable.
            absurd (record_is_read m so_far.so_far readable c.if-page-eq0.false read c.in_err-record.was);
      };
    }

pub loop-step-preserved : goal.loop-step-preserved
loop-step-preserved g c =
    let m = g.S.PageStore.meaning c.args.store.now in
    let window = c.args.window.now in
    let so_far = c.loop-step.invariant in
    let few = so_far.few in
    let postings = c.as_slice-postings.result.now in
    let most = c.as_slice-postings.ensures.fits in
    let after = c.put_rows.new.self in
    let read : NodeRead record_image RecordFits record_of m c.loop-step.page c.read_node.result = subst (λ (k : Meaning). NodeRead record_image RecordFits record_of k c.loop-step.page c.read_node.result) so_far.same_meaning c.read_node.ensures.reads_what_stands_there in
    record {
      same_meaning = c.read_node.ensures.keeps_the_meaning ∙ so_far.same_meaning;
      stays = stays_on window c.loop-step.window after so_far.stays (put_stays c.loop-step.window after (filled c.loop-step.window.skip c.loop-step.next (rows_of c.args.key.now postings) c.loop-step.window.buffer.now) c.put_rows.ensures.are_put);
      few = omega arith;
      so_far =
          chain_more m so_far.so_far c.if-page-eq0.false read c.in_ok-record.was c.as_slice-postings.ensures.value
          (rows_put window c.loop-step.window after so_far.stays c.loop-step.next (rows_of c.args.key.now postings) c.put_rows.ensures.are_put);
    }

pub returns : goal.returns
returns g c =
    let m = g.S.PageStore.meaning c.args.store.now in
    let so_far = c.loop-step.invariant in
    record {
      keeps_the_meaning = so_far.same_meaning;
      stays_over_the_buffer = so_far.stays;
      walks_the_chain = record {
        puts_its_rows = λ records readable.
            chain_never_so_long m so_far.so_far readable (let past = c.loop-step-test.false in let is = c.count-count.ensures.is_the_count in omega arith);
      };
    }
