use Rattle.intern_api.proofs.RecentLaws.{remembers}
use Rattle.intern_api.proofs.recent.put.Goals as goal

pub returns : goal.returns
returns c = remembers c.insert.result c.args.recent.now c.insert.new.self c.args.key c.args.handle c.insert.ensures.updates c.insert.ensures.err
