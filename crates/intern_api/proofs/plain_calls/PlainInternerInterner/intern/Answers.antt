use Rattle.intern_api.proofs.RecentLaws.{kept_result}
use Rattle.intern_api.proofs.plain_calls.PlainInternerInterner.intern.Goals as goal

pub returns-clause-kept : goal.returns-clause-kept
returns-clause-kept c = kept_result c.intern.result c.args.self.now.tables c.intern.new.self.tables c.args.key.now c.intern.ensures.ok c.intern.ensures.err
