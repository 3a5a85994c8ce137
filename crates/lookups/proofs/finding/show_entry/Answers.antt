use Rattle.std.proofs.Common.{◌≡◌, ℕ, length, sym, ap, subst}
use Rattle.std.proofs.lemmas.Result.{MatchResult-at_ok}
use Rattle.nodes.specs.Layout.{LeafEntry}
use Rattle.tree.specs.Valid.{head_of}
use Rattle.calls.specs.declared.answers.Looked.{Looked}
use Rattle.searching.specs.Chains.{ChainFrom}
use Rattle.lookups.specs.declared.pouring.ChainEnd.{ChainEnd}
use Rattle.lookups.specs.Pouring.{ChainPoured}
use Rattle.lookups.proofs.Entries.{entry_shown}
use Rattle.lookups.proofs.finding.show_entry.Goals as goal

pub returns-clause-shows_the_entry : goal.returns-clause-shows_the_entry
returns-clause-shows_the_entry g c =
    let entry = c.args.entry.now in
    let inline = c.as_slice-inline.result.now in
    λ found is chain few.
    let head : entry.head ≡ head_of found.records = ap (λ (e : LeafEntry). e.head) is in
    let from = subst (λ (n : ℕ). ChainFrom (g.S.PageStore.meaning c.args.store.now).pages n found.records) (sym head) chain in
    let poured = MatchResult-at_ok (λ (end : ChainEnd). ChainPoured (length inline) found.records c.pour.new.list end c.pour_chain.new.list) (λ _. ⊥) c.in_ok-end.end c.in_ok-end.was (c.pour_chain.ensures.pours_the_chain found.records from few) in
    entry_shown entry found c.args.reads c.args.list.now c.pour.new.list c.pour_chain.new.list c.in_ok-end.end inline c.as_slice-inline.ensures.value is c.pour.ensures.writes_what_fits poured
    c.looked.result (ap (λ (l : Looked). l.total) c.looked.ensures.counts_postings_places_and_reads) (ap (λ (l : Looked). l.written) c.looked.ensures.counts_postings_places_and_reads) (ap (λ (l : Looked). l.reads) c.looked.ensures.counts_postings_places_and_reads)
