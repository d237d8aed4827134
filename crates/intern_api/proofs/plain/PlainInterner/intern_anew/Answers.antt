use Rattle.intern_api.proofs.RecentLaws.{kept_known_result}
use Rattle.intern_api.proofs.plain.PlainInterner.intern_anew.Goals as goal

pub invariant_of-self : goal.invariant_of-self
invariant_of-self c = record { known = kept_known_result c.intern_key.result c.args.self.now.tables c.intern_key.new.self c.args.key.now c.args.self.now.recent c.intern_key.ensures.ok c.intern_key.ensures.err c.args.self.now.known }
