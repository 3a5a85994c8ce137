use Rattle.std.proofs.Common.{◌≡◌, ℕ, ◌+◌, ◌*◌, ◌<◌, ◌≤◌, length, get_or, ap, arith}
use Rattle.std.proofs.lemmas.Nat.{mul-le}
use Rattle.std.proofs.lemmas.List.{at_drop_more, at_drop_all}
use Rattle.stores.specs.Slots.{seal_from}
use Rattle.stores.proofs.sealed.seal_of.Goals as goal

pub loop-i-preserved : goal.loop-i-preserved
loop-i-preserved c =
    let p = mul-le (c.loop-i.i + 1) (get_or c.args.page.now c.loop-i.i 0) 512 255 (omega arith) (omega arith) in
    let same : (c.loop-i.i + 1) * c.from.result ≡ (c.loop-i.i + 1) * get_or c.args.page.now c.loop-i.i 0 = ap (λ (byte : ℕ). (c.loop-i.i + 1) * byte) c.from.ensures in
    let there : c.loop-i.i < length c.args.page.now = omega arith in
    let s = at_drop_more (seal_from c.loop-i.i) c.args.page.now c.loop-i.i 0 there in
    (omega arith, omega arith)

pub returns : goal.returns
returns c =
    let all : length c.args.page.now ≤ c.loop-i.i = omega arith in
    let s = at_drop_all (seal_from c.loop-i.i) c.args.page.now c.loop-i.i all in
    record { is_the_seal = omega arith }
