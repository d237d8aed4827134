use Rattle.std.proofs.Common.{arith, sym, subst}
use Rattle.std.proofs.lemmas.Grind.{common_steps}
use Rattle.flat_model.specs.Flat.{IsClosed}
use Rattle.edit_model.proofs.ClosedLaws.{closed_operand}
use Rattle.ir_arena.specs.Arena.{flat_of}
use Rattle.ir_arena.proofs.CellLaws.{operand_written}
use Rattle.ir_arena.proofs.func.Func.set_operand.Goals as goal

pub invariant_of-self : goal.invariant_of-self
invariant_of-self c = subst IsClosed (sym (operand_written c.self.inside.ops.items c.self.inside.blocks.items c.self.inside.regions.items c.self.inside.types.items c.self.inside.root c.args.op c.args.at c.args.value c.index_mut-node.result.now c.set.new.self (grind (arith, common_steps)) c.index_mut-node.ensures.value c.set.ensures))
    (closed_operand (flat_of c.self.inside.ops.items c.self.inside.blocks.items c.self.inside.regions.items c.self.inside.types.items c.self.inside.root) c.args.op c.args.at c.args.value c.self.invariant (grind (arith, common_steps)) (grind (arith, common_steps)))
