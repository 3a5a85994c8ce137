use Rattle.std.proofs.Common.{◌<◌, ◌&&◌, drop, ap, ◌∙◌}
use Rattle.std.proofs.ByRecursion.{All-from_get_or}
use Rattle.keys.specs.Fields.{zeros_only, bytes_only}
use Rattle.keys.specs.FieldLaws.{zeros_told}
use Rattle.branch_kind.specs.Vouchers.{voucher_zeros}
use Rattle.branch_kind.proofs.is_voucher.Goals as goal

pub returns-then-is_branch : goal.returns-then-is_branch
unfolding voucher_zeros
returns-then-is_branch c =
    let f = c.args.field.now in
    let all = All-from_get_or (λ b. b < 256) f 0 (λ i h. (c.type_inv.field i).fits) in
    record { tells_vouchers = zeros_told f 8 c.are_zeros.result all c.are_zeros.ensures.tells_zeros ∙ ap (λ t. t && (zeros_only (drop 8 f) && bytes_only f)) c.if-is_branch.ensures.tells_branches }
