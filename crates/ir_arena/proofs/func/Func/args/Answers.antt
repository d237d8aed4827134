use Rattle.std.proofs.Common.{arith, subst}
use Rattle.std.proofs.lemmas.Grind.{common_steps}
use Rattle.flat_model.specs.Flat.{IsClosed}
use Rattle.ir_arena.specs.Arena.{Arena}
use Rattle.ir_arena.proofs.ReaderLaws.{args_known}
use Rattle.ir_arena.proofs.func.Func.args.Goals as goal

pub returns-clause-known : goal.returns-clause-known
returns-clause-known c = args_known c.args.self.now c.args.block _ (subst (λ (a : Arena). IsClosed a.flat) c.self.view_is c.self.invariant) c.requires (grind (arith, common_steps))
