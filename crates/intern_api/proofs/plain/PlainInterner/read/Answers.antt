use Rattle.intern_api.proofs.RecentLaws.{read_known}
use Rattle.intern_api.proofs.plain.PlainInterner.read.Goals as goal

pub returns : goal.returns
returns c = read_known c.read_within.result c.args.self.now.tables c.args.handle c.read_within.ensures
