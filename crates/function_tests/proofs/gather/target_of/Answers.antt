use Rattle.function_tests.proofs.Targets.{target_none, target_some}
use Rattle.function_tests.proofs.gather.target_of.Goals as goal

pub returns-in-Some : goal.returns-in-Some
returns-in-Some c = target_some c.args.heads.now c.args.blocks.now c.args.label c.in-Some.place c.at.result c.requires c.in-Some.ensures c.at.ensures

pub returns-in-None : goal.returns-in-None
returns-in-None c = target_none c.args.blocks.now c.args.label c.in-None.ensures
