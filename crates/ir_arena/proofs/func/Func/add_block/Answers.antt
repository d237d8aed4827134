use Rattle.std.proofs.Common.{◌≡◌, arith, sym, subst, ◌++◌, ◌∷◌, []}
use Rattle.std.proofs.lemmas.Grind.{common_steps}
use Rattle.flat_model.specs.Flat.{IsClosed}
use Rattle.edit_model.proofs.ClosedLaws.{closed_block}
use Rattle.ir_arena.specs.declared.cells.BlockCell.{BlockCell}
use Rattle.ir_arena.specs.Arena.{flat_of}
use Rattle.ir_arena.proofs.CellLaws.{block_pushed}
use Rattle.ir_arena.proofs.func.Func.add_block.Goals as goal

pub invariant_of-self-2 : goal.invariant_of-self-2
invariant_of-self-2 c = let d : BlockCell = record { args = c.new-args.result; ops = c.new-ops.result } in let e : c.push.new.self.items ≡ c.self.inside.blocks.items ++ d ∷ [] = grind (arith, common_steps) in
    subst (λ bs. IsClosed (flat_of c.self.inside.ops.items bs c.self.inside.regions.items c.self.inside.types.items c.self.inside.root)) (sym e) (subst IsClosed (sym (block_pushed c.self.inside.ops.items c.self.inside.blocks.items c.self.inside.regions.items c.self.inside.types.items c.self.inside.root d c.new-args.ensures.items c.new-ops.ensures)) (closed_block (flat_of c.self.inside.ops.items c.self.inside.blocks.items c.self.inside.regions.items c.self.inside.types.items c.self.inside.root) c.self.invariant))
