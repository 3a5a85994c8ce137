use Rattle.std.proofs.Common.{◌+◌, ◌≤◌, length, refl, sym, ap, ◌∙◌, arith}
use Rattle.std.proofs.lemmas.List.{length-map}
use Rattle.std.proofs.lemmas.Option.{cond_some}
use Rattle.std.proofs.lemmas.Result.{IfOk-at_ok}
use Rattle.keys.specs.Kinds.{Field, below}
use Rattle.nodes.specs.Few.{items}
use Rattle.nodes.specs.Meanings.{entry_of}
use Rattle.listing.specs.Walks.{most_in_entry}
use Rattle.listing.proofs.InRange.{unchecked}
use Rattle.listing.proofs.Windows.{stays_on}
use Rattle.listing.proofs.Told.{entry_told}
use Rattle.searching.proofs.Choosing.{meant_there}
use Rattle.listing.proofs.LeafSteps.{leaf_start, key_lawful, leaf_under, leaf_lists, leaf_done, leaf_ends, entry_never_refused}
use Rattle.listing.proofs.leaves.list_leaf.Goals as goal

pub loop-entry-init : goal.loop-entry-init
loop-entry-init g c =
    record { same_meaning = refl; stays = refl; few = omega arith; so_far = leaf_start }

pub returns-in_default-clause-walks_the_leaf : goal.returns-in_default-clause-walks_the_leaf
returns-in_default-clause-walks_the_leaf g c =
    let leaf = c.args.leaf.now in
    let range = c.args.range.now in
    let i = c.loop-entry.entry-index in
    let x = c.entry-item.result in
    let there = meant_there entry_of c.as_slice-entry-items.result.now (items leaf.entries) i x c.as_slice-entry-items.ensures.value c.loop-entry-test.true c.entry-item.is in
    record {
      passes_it = λ node is readable rising.
          absurd (unchecked (g.K.KeyKind.kind.lawful x.key) _ c.in_default.ensures.is_the_field_if_lawful
          (key_lawful c.loop-entry.invariant.so_far there
          (record { is_it = is; readable = readable; rising = rising; second_lawful = range.second.is_lawful })));
    }

pub loop-entry-preserved-then-starts_after : goal.loop-entry-preserved-then-starts_after
loop-entry-preserved-then-starts_after g c =
    let kind = g.K.KeyKind.kind in
    let leaf = c.args.leaf.now in
    let range = c.args.range.now in
    let i = c.loop-entry.entry-index in
    let x = c.entry-item.result in
    let so_far = c.loop-entry.invariant in
    let few = so_far.few in
    let most = c.as_slice-entry-items.ensures.fits in
    let there = meant_there entry_of c.as_slice-entry-items.result.now (items leaf.entries) i x c.as_slice-entry-items.ensures.value c.loop-entry-test.true c.entry-item.is in
    let same = ap (λ r. r.now) (cond_some (kind.lawful x.key) _ c.in-Some.key.field (sym c.in-Some.ensures.is_the_field_if_lawful)).1 in
    record {
      same_meaning = so_far.same_meaning;
      stays = so_far.stays;
      few = omega arith;
      so_far =
          leaf_under so_far.so_far there
          (ap (λ (key : Field). below kind key range.first.field.now) same ∙ sym c.starts_after.ensures.is_below_it ∙ c.if-starts_after.true);
    }

pub returns-then-ends_before-clause-walks_the_leaf : goal.returns-then-ends_before-clause-walks_the_leaf
returns-then-ends_before-clause-walks_the_leaf g c =
    let kind = g.K.KeyKind.kind in
    let leaf = c.args.leaf.now in
    let range = c.args.range.now in
    let i = c.loop-entry.entry-index in
    let x = c.entry-item.result in
    let there = meant_there entry_of c.as_slice-entry-items.result.now (items leaf.entries) i x c.as_slice-entry-items.ensures.value c.loop-entry-test.true c.entry-item.is in
    let same = ap (λ r. r.now) (cond_some (kind.lawful x.key) _ c.in-Some.key.field (sym c.in-Some.ensures.is_the_field_if_lawful)).1 in
    record {
      passes_it = λ node is readable rising.
          leaf_done c.loop-entry.invariant.so_far there
          (record { is_it = is; readable = readable; rising = rising; second_lawful = range.second.is_lawful })
          (ap (below kind range.second.field.now) same ∙ sym c.ends_before.ensures.is_above_it ∙ c.if-ends_before.true);
    }

pub returns-in_err-next-clause-walks_the_leaf : goal.returns-in_err-next-clause-walks_the_leaf
returns-in_err-next-clause-walks_the_leaf g c =
    let m = g.S.PageStore.meaning c.args.store.now in
    let leaf = c.args.leaf.now in
    let range = c.args.range.now in
    let window = c.args.window.now in
    let here = c.loop-entry.window in
    let i = c.loop-entry.entry-index in
    let x = c.entry-item.result in
    let so_far = c.loop-entry.invariant in
    let there = meant_there entry_of c.as_slice-entry-items.result.now (items leaf.entries) i x c.as_slice-entry-items.ensures.value c.loop-entry-test.true c.entry-item.is in
    let walked = entry_told m (g.S.PageStore.meaning c.loop-entry.store) window here so_far.same_meaning so_far.stays c.list_entry.ensures.walks_the_entry in
    record {
      passes_it = λ node is readable rising.
          absurd (entry_never_refused so_far.so_far there
          (record { is_it = is; readable = readable; rising = rising; second_lawful = range.second.is_lawful }) walked c.in_err-next.was);
    }

pub loop-entry-preserved : goal.loop-entry-preserved
loop-entry-preserved g c =
    let kind = g.K.KeyKind.kind in
    let m = g.S.PageStore.meaning c.args.store.now in
    let leaf = c.args.leaf.now in
    let range = c.args.range.now in
    let window = c.args.window.now in
    let here = c.loop-entry.window in
    let i = c.loop-entry.entry-index in
    let x = c.entry-item.result in
    let so_far = c.loop-entry.invariant in
    let few = so_far.few in
    let most = c.as_slice-entry-items.ensures.fits in
    let more = IfOk-at_ok (λ next. next ≤ c.loop-entry.next + most_in_entry) c.in_ok-next.was c.list_entry.ensures.counts_few in
    let there = meant_there entry_of c.as_slice-entry-items.result.now (items leaf.entries) i x c.as_slice-entry-items.ensures.value c.loop-entry-test.true c.entry-item.is in
    let same = ap (λ r. r.now) (cond_some (kind.lawful x.key) _ c.in-Some.key.field (sym c.in-Some.ensures.is_the_field_if_lawful)).1 in
    let walked = entry_told m (g.S.PageStore.meaning c.loop-entry.store) window here so_far.same_meaning so_far.stays c.list_entry.ensures.walks_the_entry in
    record {
      same_meaning = c.list_entry.ensures.keeps_the_meaning ∙ so_far.same_meaning;
      stays = stays_on window here c.list_entry.new.window so_far.stays c.list_entry.ensures.stays_over_the_buffer;
      few = omega arith;
      so_far =
          leaf_lists so_far.so_far there
          (ap (λ (key : Field). below kind key range.first.field.now) same ∙ sym c.starts_after.ensures.is_below_it ∙ c.if-starts_after.false)
          (ap (below kind range.second.field.now) same ∙ sym c.ends_before.ensures.is_above_it ∙ c.if-ends_before.false) walked c.in_ok-next.was;
    }

pub returns-clause-walks_the_leaf : goal.returns-clause-walks_the_leaf
returns-clause-walks_the_leaf g c =
    let leaf = c.args.leaf.now in
    let range = c.args.range.now in
    let past = c.loop-entry-test.false in
    record {
      passes_it = λ node is readable rising.
          leaf_ends c.loop-entry.invariant.so_far
          (record { is_it = is; readable = readable; rising = rising; second_lawful = range.second.is_lawful }) (let same = ap length c.as_slice-entry-items.ensures.value in omega (arith, length-map (items leaf.entries) entry_of));
    }
