use Rattle.std.proofs.Common.{arith}
use Rattle.std.proofs.lemmas.Grind.{common_steps}
use Rattle.flat_model.proofs.PushLaws.{type_built_is}
use Rattle.ir_arena.proofs.pushing.push_value.Goals as goal

pub returns-clause-built : goal.returns-clause-built
returns-clause-built c = λ values blocks. type_built_is values blocks _ _ c.args.ty (grind (arith, common_steps))
