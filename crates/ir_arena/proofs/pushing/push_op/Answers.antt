use Rattle.std.proofs.Common.{arith}
use Rattle.std.proofs.lemmas.Grind.{common_steps}
use Rattle.flat_model.proofs.PushLaws.{op_built_is}
use Rattle.ir_arena.proofs.pushing.push_op.Goals as goal

pub returns-clause-built : goal.returns-clause-built
returns-clause-built c = λ values blocks w. op_built_is values blocks _ _ c.args.node w (grind (arith, common_steps))
