use Rattle.std.proofs.Common.{◌≡◌, ap}
use Rattle.std.proofs.lemmas.Result.{MatchResult-at_ok, MatchResult-at_err}
use Rattle.nodes.specs.declared.header.Header.{Header}
use Rattle.nodes.specs.Layout.{HeaderPage}
use Rattle.nodes.specs.Meanings.{header_of}
use Rattle.searching.specs.Descents.{header_on}
use Rattle.searching.proofs.Onwards.{relayed}
use Rattle.searching.proofs.descent.descend.Goals as goal

pub returns-in_err-header-clause-arrives_at_the_leaf_of_the_key : goal.returns-in_err-header-clause-arrives_at_the_leaf_of_the_key
returns-in_err-header-clause-arrives_at_the_leaf_of_the_key g c =
    λ entries valid lawful. absurd (MatchResult-at_err (λ (header : Header). header_of header ≡ header_on valid) (λ _. ⊥) c.in_err-header.field-0.0 c.in_err-header.was (c.header_of.ensures.is_the_header entries valid))

pub returns-clause-arrives_at_the_leaf_of_the_key : goal.returns-clause-arrives_at_the_leaf_of_the_key
returns-clause-arrives_at_the_leaf_of_the_key g c =
    λ entries valid lawful.
    let header = c.in_ok-header.header in
    let is = MatchResult-at_ok (λ (header : Header). header_of header ≡ header_on valid) (λ _. ⊥) header c.in_ok-header.was (c.header_of.ensures.is_the_header entries valid) in
    relayed g.K.KeyKind.kind (g.S.PageStore.meaning c.args.store.now) (g.S.PageStore.meaning c.header_of.new.store) c.args.key.now header.root header.height c.way_down.result c.header_of.ensures.keeps_the_meaning c.way_down.ensures.arrives
    entries valid c.header_of.ensures.pages_are_few (ap (λ (h : HeaderPage). h.root) is) (ap (λ (h : HeaderPage). h.height) is) lawful
