use Rattle.std.proofs.Common.{◌≡◌, ℕ, true, false, sym, ◌∙◌, arith}
use Rattle.nodes.specs.Meanings.{header_of}
use Rattle.searching.proofs.Heads.{header_is, header_is_read, never_implausible, height_fits}
use Rattle.searching.proofs.descent.header_of.Goals as goal

pub returns-in_err-header-clause-is_the_header : goal.returns-in_err-header-clause-is_the_header
returns-in_err-header-clause-is_the_header g c =
    let few = c.count-count.ensures.means_sound_pages.has_at_most_65536_pages in
    λ entries valid. absurd (header_is_read (g.S.PageStore.meaning c.args.store.now) few g.K.KeyKind.kind entries valid c.in_err-header.field-0.0 c.read_node.result c.read_node.ensures.reads_what_stands_there c.in_err-header.was)

pub returns-then-is_plausible-clause-is_the_header : goal.returns-then-is_plausible-clause-is_the_header
returns-then-is_plausible-clause-is_the_header g c =
    let few = c.count-count.ensures.means_sound_pages.has_at_most_65536_pages in
    λ entries valid. header_is (g.S.PageStore.meaning c.args.store.now) few g.K.KeyKind.kind entries valid c.in_ok-header.header c.read_node.result c.read_node.ensures.reads_what_stands_there c.in_ok-header.was

pub returns-then-is_plausible-clause-has_1_to_6_levels : goal.returns-then-is_plausible-clause-has_1_to_6_levels
returns-then-is_plausible-clause-has_1_to_6_levels g c = height_fits g.K.KeyKind.kind c.count-count.result (header_of c.in_ok-header.header) (sym c.is_plausible.ensures.tells_what_can_be ∙ c.if-is_plausible.true)

pub returns-else-is_plausible-clause-is_the_header : goal.returns-else-is_plausible-clause-is_the_header
returns-else-is_plausible-clause-is_the_header g c =
    let few = c.count-count.ensures.means_sound_pages.has_at_most_65536_pages in
    let m = g.S.PageStore.meaning c.args.store.now in
    λ entries valid.
    let is = header_is m few g.K.KeyKind.kind entries valid c.in_ok-header.header c.read_node.result c.read_node.ensures.reads_what_stands_there c.in_ok-header.was in
    let no' : true ≡ false = sym (never_implausible m few g.K.KeyKind.kind entries valid c.in_ok-header.header c.count-count.result is c.count-count.ensures.is_the_count) ∙ (sym c.is_plausible.ensures.tells_what_can_be ∙ c.if-is_plausible.false) in
    let z : ◌≡◌ {A = ℕ} 0 1 = cc in absurd (omega arith)
