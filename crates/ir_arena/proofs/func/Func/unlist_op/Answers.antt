use Rattle.std.proofs.Common.{arith, sym, subst, length}
use Rattle.std.proofs.lemmas.Grind.{common_steps}
use Rattle.flat_model.specs.Flat.{AllBelow}
use Rattle.edit_model.proofs.ClosedLaws.{below_remove}
use Rattle.ir_arena.proofs.CellLaws.{closed_written}
use Rattle.ir_arena.proofs.func.Func.unlist_op.Goals as goal

pub invariant_of-self : goal.invariant_of-self
invariant_of-self c = closed_written c.self.inside.ops.items c.self.inside.blocks.items c.self.inside.regions.items c.self.inside.types.items c.self.inside.root c.args.block c.index_mut-cell.result.now c.remove.new.self (grind (arith, common_steps)) c.index_mut-cell.ensures.value c.self.invariant (λ a. subst (AllBelow (length c.self.inside.ops.items)) (sym c.remove.ensures.list) (below_remove _ c.index_mut-cell.result.now.ops.list c.args.at a))
