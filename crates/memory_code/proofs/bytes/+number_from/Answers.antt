use Rattle.std.proofs.Common.{suc, arith}
use Rattle.memory_code.proofs.ByteLaws.{high_fits, one_byte_fits}
use Rattle.std.proofs.Common.{◌≡◌, ◌<◌, ◌-◌}
use Rattle.memory_code.proofs.bytes.+number_from.Goals as goal

-- src/bytes.rt:37:32
pub joined-requires : goal.joined-requires
joined-requires t c = high_fits (c.args.count - 1) c.in-Some-number_from.high (omega (arith, c.requires.few)) c.in-Some-number_from.ensures.small

-- src/bytes.rt:26:1
pub returns-in-Some-number_from-clause-small : goal.returns-in-Some-number_from-clause-small
returns-in-Some-number_from-clause-small t c =
    let more : c.args.count ≡ suc (c.args.count - 1) = omega (arith, c.if-count-eq0.false) in
    let low : c.in-Some.low.now < 256 = omega arith in
    rw c.joined.ensures (one_byte_fits (c.args.count - 1) c.args.count c.in-Some.low.now c.in-Some-number_from.high more low c.in-Some-number_from.ensures.small)
