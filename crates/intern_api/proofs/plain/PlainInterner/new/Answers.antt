use Rattle.intern_api.proofs.EmptyLaws.{empty_unknown}
use Rattle.intern_api.proofs.plain.PlainInterner.new.Goals as goal

pub returns-clause-empty : goal.returns-clause-empty
returns-clause-empty c h k known = empty_unknown c.args.shards c.args.shards c.args.cap c.in_ok-list.list.items c.in_ok-list.ensures h k known
