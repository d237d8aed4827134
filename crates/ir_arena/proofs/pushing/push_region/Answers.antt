use Rattle.std.proofs.Common.{arith}
use Rattle.std.proofs.lemmas.Grind.{common_steps}
use Rattle.flat_model.proofs.PushLaws.{region_built_is}
use Rattle.ir_arena.proofs.pushing.push_region.Goals as goal

pub returns-clause-built : goal.returns-clause-built
returns-clause-built c = λ values blocks w. region_built_is values blocks _ _ c.args.held.items w (grind (arith, common_steps))
