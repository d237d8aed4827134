use Rattle.std.proofs.Common.{arith, ◌<◌, length}
use Rattle.std.proofs.lemmas.Grind.{common_steps}
use Rattle.ir_arena.proofs.CellLaws.{closed_written, listed_below}
use Rattle.ir_arena.proofs.func.Func.list_op.Goals as goal

pub invariant_of-self : goal.invariant_of-self
invariant_of-self c = closed_written c.self.inside.ops.items c.self.inside.blocks.items c.self.inside.regions.items c.self.inside.types.items c.self.inside.root c.args.block c.index_mut-cell.result.now c.insert.new.self (grind (arith, common_steps)) c.index_mut-cell.ensures.value c.self.invariant (listed_below c.insert.result _ c.index_mut-cell.result.now.ops c.insert.new.self c.args.at c.args.op c.insert.ensures.ok c.insert.ensures.err (let h : c.args.op < length c.self.inside.ops.items = grind (arith, common_steps) in h))
