use Rattle.std.proofs.Common.{◌≤◌, length, is_some, ltb-false, sym, ap, ◌∙◌, arith, rules}
use Rattle.std.specs.Cmp.Lexicographic.{same_text, other_text}
use Rattle.std.proofs.lemmas.List.Sorted.{IsPartitionPoint-from_clause}
use Rattle.plain_book.proofs.Places.{is_lower, found_standing, found_other, found_past}
use Rattle.plain_book.proofs.kept.PlainBook.place_of.Goals as goal

pub returns-in-Some-clause-stands : goal.returns-in-Some-clause-stands
returns-in-Some-clause-stands g c sorted =
    let kind = g.K.KeyKind.kind in
    let key = c.args.key.now.field.now in
    let seen = c.as_slice-accounts.result.now in
    let at = c.partition_point-at.result in
    let read = c.in-Some.ensures.lookup in
    found_standing kind key c.args.key.now.is_lawful seen c.args.self.now.accounts.items c.as_slice-accounts.ensures.value sorted at c.partition_point-at.ensures.bound
    (λ parted. IsPartitionPoint-from_clause (is_lower kind key) seen at c.partition_point-at.ensures.partitioned parted (λ a r q k. search rules))
    c.in-Some.account.now read.3.0 read.1 (sym c.as_slice.ensures.value ∙ same_text c.as_slice.result.now key c.if-eq.ensures)

pub returns-in_default-clause-absent : goal.returns-in_default-clause-absent
returns-in_default-clause-absent g c sorted =
    let kind = g.K.KeyKind.kind in
    let key = c.args.key.now.field.now in
    let seen = c.as_slice-accounts.result.now in
    let at = c.partition_point-at.result in
    found_other kind key c.args.key.now.is_lawful seen c.args.self.now.accounts.items c.as_slice-accounts.ensures.value sorted at c.partition_point-at.ensures.bound
    (λ parted. IsPartitionPoint-from_clause (is_lower kind key) seen at c.partition_point-at.ensures.partitioned parted (λ a r q k. search rules))
    c.in-Some.account.now c.in-Some.ensures.lookup.1 (λ e. other_text c.as_slice.result.now key c.if-eq.ensures (c.as_slice.ensures.value ∙ e))

pub returns-in_default-2-clause-absent : goal.returns-in_default-2-clause-absent
returns-in_default-2-clause-absent g c sorted =
    let kind = g.K.KeyKind.kind in
    let key = c.args.key.now.field.now in
    let seen = c.as_slice-accounts.result.now in
    let at = c.partition_point-at.result in
    let past : length seen ≤ at = omega (arith, ltb-false at (length seen) (sym c.get.ensures.lookup.0 ∙ ap is_some c.in_default.is)) in
    found_past kind key c.args.key.now.is_lawful seen c.args.self.now.accounts.items c.as_slice-accounts.ensures.value sorted at c.partition_point-at.ensures.bound
    (λ parted. IsPartitionPoint-from_clause (is_lower kind key) seen at c.partition_point-at.ensures.partitioned parted (λ a r q k. search rules)) past
