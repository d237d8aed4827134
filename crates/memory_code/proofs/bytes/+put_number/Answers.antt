use Rattle.std.proofs.Common.{◌≡◌, suc, ◌-◌, arith}
use Rattle.memory_code.proofs.ByteLaws.{on_ok, put_more}
use Rattle.memory_code.proofs.bytes.+put_number.Goals as goal

pub returns : goal.returns
returns t c =
    let more : c.args.count ≡ suc (c.args.count - 1) = omega (arith, c.if-count-eq0.false) in
    on_ok c.put_number.result
    (put_more c.args.map.now (record { bytes = c.insert.new.self }) c.put_number.new.map (c.args.count - 1) c.args.count c.args.place c.args.n more c.in_ok-insert.ensures.updates.0)
    c.put_number.ensures
