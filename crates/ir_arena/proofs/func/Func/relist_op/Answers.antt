use Rattle.std.proofs.Common.{arith, sym, subst, ◌<◌, length}
use Rattle.std.proofs.lemmas.Grind.{common_steps}
use Rattle.flat_model.specs.Flat.{AllBelow}
use Rattle.edit_model.proofs.ClosedLaws.{below_insert}
use Rattle.ir_arena.proofs.CellLaws.{closed_written}
use Rattle.ir_arena.proofs.func.Func.relist_op.Goals as goal

pub invariant_of-self : goal.invariant_of-self
invariant_of-self c = closed_written c.self.inside.ops.items c.self.inside.blocks.items c.self.inside.regions.items c.self.inside.types.items c.self.inside.root c.args.block c.index_mut-cell.result.now c.put_back.new.self (grind (arith, common_steps)) c.index_mut-cell.ensures.value c.self.invariant (λ a. subst (AllBelow (length c.self.inside.ops.items)) (sym c.put_back.ensures.list) (below_insert _ c.index_mut-cell.result.now.ops.list c.args.at c.args.op a (let h : c.args.op < length c.self.inside.ops.items = grind (arith, common_steps) in h)))
