use Rattle.std.proofs.Common.{◌≡◌, ℕ, ◌+◌, length, sym, ap, ◌∙◌, subst}
use Rattle.std.proofs.lemmas.Result.{MatchResult-at_ok, MatchResult-at_err}
use Rattle.listing.specs.declared.rows.Window.{Window}
use Rattle.listing.specs.Filling.{is_any_shown, filled}
use Rattle.listing.specs.Walks.{ChainWalked, rows_in_chain}
use Rattle.listing.proofs.EntrySteps.{entry_put, chain_not_shown, chain_there}
use Rattle.listing.proofs.entries.list_entry.Goals as goal

pub returns-else-shows_any-clause-walks_the_entry : goal.returns-else-shows_any-clause-walks_the_entry
returns-else-shows_any-clause-walks_the_entry g c =
    let x = c.args.entry.now in
    let inline = c.as_slice-inline.result.now in
    let window = c.args.window.now in
    let mid = c.put_rows.new.self in
    let skips = ap (λ (w : Window). w.skip) c.put_rows.ensures.are_put in
    let put = ap (λ (w : Window). w.buffer.now) c.put_rows.ensures.are_put in
    record {
      puts_its_rows = λ entry is readable.
          entry_put x entry is inline c.as_slice-inline.ensures.value c.args.at window.skip window.buffer.now mid.buffer.now put mid.buffer.now
          (chain_not_shown x entry is inline c.as_slice-inline.ensures.value c.args.at window.skip window.buffer.now mid.buffer.now put (ap (λ (skip : ℕ). is_any_shown skip (length mid.buffer.now) (c.args.at + length inline) (c.args.at + length inline + x.chained)) (sym skips) ∙ sym c.shows_any.ensures.tells_of_any ∙ c.if-shows_any.false));
    }

pub returns-in_err-list_chain-clause-walks_the_entry : goal.returns-in_err-list_chain-clause-walks_the_entry
returns-in_err-list_chain-clause-walks_the_entry g c =
    let x = c.args.entry.now in
    let inline = c.as_slice-inline.result.now in
    let mid = c.put_rows.new.self in
    record {
      puts_its_rows = λ entry is readable.
          absurd (MatchResult-at_err (λ _. c.list_chain.new.window.buffer.now ≡ filled mid.skip (c.args.at + length inline) (rows_in_chain x.key entry.records) mid.buffer.now) (λ _. ⊥) c.in_err-list_chain.field-0.0 c.in_err-list_chain.was (c.list_chain.ensures.walks_the_chain.puts_its_rows entry.records (chain_there x entry is (g.S.PageStore.meaning c.args.store.now).pages readable)));
    }

pub returns-in_ok-list_chain-clause-walks_the_entry : goal.returns-in_ok-list_chain-clause-walks_the_entry
returns-in_ok-list_chain-clause-walks_the_entry g c =
    let x = c.args.entry.now in
    let inline = c.as_slice-inline.result.now in
    let window = c.args.window.now in
    let mid = c.put_rows.new.self in
    let after = c.list_chain.new.window in
    let skips = ap (λ (w : Window). w.skip) c.put_rows.ensures.are_put in
    let put = ap (λ (w : Window). w.buffer.now) c.put_rows.ensures.are_put in
    let pages = (g.S.PageStore.meaning c.args.store.now).pages in
    let walked = subst (λ (skip : ℕ). ChainWalked pages x.key x.head (c.args.at + length inline) skip mid.buffer.now c.list_chain.result after.buffer.now) skips c.list_chain.ensures.walks_the_chain in
    record {
      puts_its_rows = λ entry is readable.
          entry_put x entry is inline c.as_slice-inline.ensures.value c.args.at window.skip window.buffer.now mid.buffer.now put after.buffer.now
          (MatchResult-at_ok (λ _. after.buffer.now ≡ filled window.skip (c.args.at + length inline) (rows_in_chain x.key entry.records) mid.buffer.now) (λ _. ⊥) tt c.in_ok-list_chain.was (walked.puts_its_rows entry.records (chain_there x entry is pages readable)));
    }
