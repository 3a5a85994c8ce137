use Rattle.std.proofs.Common.{◌≡◌, ℕ, ◌-◌, ◌/◌, min, length, sym, ◌∙◌, subst}
use Rattle.page_store.specs.Meanings.{Meaning}
use Rattle.nodes.specs.Meanings.{leaf_of}
use Rattle.listing.specs.Walks.{LeavesWalked}
use Rattle.listing.proofs.Windows.{same_skip}
use Rattle.listing.proofs.Whole.{lists_nothing, refused_on_the_way, refused_on_the_leaves, lists_the_leaves}
use Rattle.listing.proofs.between.list_between.Goals as goal

pub returns-then-goes_back-clause-lists_between : goal.returns-then-goes_back-clause-lists_between
returns-then-goes_back-clause-lists_between g c =
    let range = c.args.range.now in
    let window = c.args.window.now in
    lists_nothing g.K.KeyKind.kind (g.S.PageStore.meaning c.args.store.now) range.first.field.now range.second.field.now range.first.is_lawful range.second.is_lawful window.skip window.buffer.now (sym c.goes_back.ensures.is_above ∙ c.if-goes_back.true)

pub returns-in_err-descent-clause-lists_between : goal.returns-in_err-descent-clause-lists_between
returns-in_err-descent-clause-lists_between g c =
    let range = c.args.range.now in
    let window = c.args.window.now in
    refused_on_the_way g.K.KeyKind.kind (g.S.PageStore.meaning c.args.store.now) range.first.field.now range.second.field.now range.first.is_lawful range.second.is_lawful window.skip window.buffer.now c.descend.ensures.pages_are_few c.descend.ensures.arrives_at_the_leaf_of_the_key
    c.in_err-descent.was

pub returns-in_err-total-clause-lists_between : goal.returns-in_err-total-clause-lists_between
returns-in_err-total-clause-lists_between g c =
    let range = c.args.range.now in
    let window = c.args.window.now in
    let after = c.list_leaves.new.window.buffer.now in
    let leaf = c.in_ok-descent.descent.leaf in
    let walked = subst (λ (k : Meaning). LeavesWalked g.K.KeyKind.kind k.pages (leaf_of leaf) range.first.field.now range.second.field.now window.skip window.buffer.now c.list_leaves.result after) c.descend.ensures.keeps_the_meaning c.list_leaves.ensures.walks_the_leaves in
    refused_on_the_leaves g.K.KeyKind.kind (g.S.PageStore.meaning c.args.store.now) range.first.field.now range.second.field.now range.first.is_lawful range.second.is_lawful window.skip window.buffer.now c.descend.ensures.pages_are_few c.descend.ensures.arrives_at_the_leaf_of_the_key
    c.in_ok-descent.was walked c.in_err-total.was

pub returns-clause-lists_between : goal.returns-clause-lists_between
returns-clause-lists_between g c =
    let range = c.args.range.now in
    let window = c.args.window.now in
    let after = c.list_leaves.new.window.buffer.now in
    let leaf = c.in_ok-descent.descent.leaf in
    let total = c.in_ok-total.total in
    let walked = subst (λ (k : Meaning). LeavesWalked g.K.KeyKind.kind k.pages (leaf_of leaf) range.first.field.now range.second.field.now window.skip window.buffer.now c.list_leaves.result after) c.descend.ensures.keeps_the_meaning c.list_leaves.ensures.walks_the_leaves in
    lists_the_leaves g.K.KeyKind.kind (g.S.PageStore.meaning c.args.store.now) range.first.field.now range.second.field.now range.first.is_lawful range.second.is_lawful window.skip window.buffer.now c.descend.ensures.pages_are_few c.descend.ensures.arrives_at_the_leaf_of_the_key
    c.in_ok-descent.was walked c.in_ok-total.was
    (subst (λ (skip : ℕ). c.count_shown-written.result ≡ min (total - skip) (length after / 32)) (same_skip window c.list_leaves.new.window c.list_leaves.ensures.stays_over_the_buffer) c.count_shown-written.ensures.is_the_lesser)
