use Rattle.std.proofs.Common.{arith, sym, subst, length, map}
use Rattle.std.proofs.lemmas.Grind.{common_steps}
use Rattle.flat_model.specs.Flat.{AllBelow}
use Rattle.ir_arena.specs.Arena.{Arena, block_node}
use Rattle.ir_arena.proofs.CellLaws.{below_is, closed_region_written}
use Rattle.ir_arena.proofs.func.Func.exchange_blocks.Goals as goal

pub invariant_of-self : goal.invariant_of-self
invariant_of-self c = closed_region_written c.self.inside.ops.items c.self.inside.blocks.items c.self.inside.regions.items c.self.inside.types.items c.self.inside.root c.args.region (record { blocks = c.replace.new.dest }) c.self.invariant
    (below_is (length (map block_node c.self.inside.blocks.items)) c.replace.new.dest.items c.args.blocks.items (grind (arith, common_steps)) (subst (λ (a : Arena). AllBelow (length a.flat.blocks) c.args.blocks.items) (sym c.self.view_is) c.requires.blocks))
