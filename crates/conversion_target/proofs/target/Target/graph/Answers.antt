use Rattle.conversion_target.proofs.TargetLaws.{allows}
use Rattle.conversion_target.specs.Targets.{target_of}
use Rattle.conversion_target.proofs.target.Target.graph.Goals as goal

pub returns-clause-depths : goal.returns-clause-depths
returns-clause-depths c = λ table e. c.in_ok-graph.ensures.depths (target_of c.args.self.now) table (allows c.args.self.now) e

pub returns-clause-orders : goal.returns-clause-orders
returns-clause-orders c = λ table e. c.in_ok-graph.ensures.orders (target_of c.args.self.now) table (allows c.args.self.now) e
