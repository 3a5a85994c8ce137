use Rattle.std.proofs.Common.{drop, replicate, ◌++◌, ap, ◌∙◌, arith}
use Rattle.drafts.proofs.Fields.{key_over_zeros}
use Rattle.drafts.proofs.field.Goals as goal

pub returns : goal.returns
returns c = ap (λ xs. xs ++ drop c.min-len.result (replicate 24 0)) c.copy_from_slice.ensures.after ∙ key_over_zeros c.args.key.now c.min-len.result (omega arith)
