use Rattle.std.proofs.Common.{arith, sym, subst, length}
use Rattle.std.proofs.lemmas.Grind.{common_steps}
use Rattle.edit_list.specs.Listed.{Listed}
use Rattle.flat_model.specs.Flat.{AllBelow}
use Rattle.ir_arena.specs.Arena.{Arena}
use Rattle.ir_arena.proofs.CellLaws.{closed_written}
use Rattle.ir_arena.proofs.func.Func.exchange_ops.Goals as goal

pub invariant_of-self : goal.invariant_of-self
invariant_of-self c = closed_written c.self.inside.ops.items c.self.inside.blocks.items c.self.inside.regions.items c.self.inside.types.items c.self.inside.root c.args.block c.index_mut-cell.result.now c.replace.new.dest (grind (arith, common_steps)) c.index_mut-cell.ensures.value c.self.invariant
    (λ _. subst (λ (l : Listed). AllBelow (length c.self.inside.ops.items) l.list) (sym c.replace.ensures.after) (subst (λ (a : Arena). AllBelow (length a.flat.ops) c.args.ops.list) (sym c.self.view_is) c.requires.ops))
