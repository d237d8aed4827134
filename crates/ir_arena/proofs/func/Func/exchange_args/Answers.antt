use Rattle.std.proofs.Common.{arith, sym, subst, refl, length}
use Rattle.std.proofs.lemmas.Grind.{common_steps}
use Rattle.flat_model.specs.Flat.{AllBelow}
use Rattle.ir_arena.specs.Arena.{Arena}
use Rattle.ir_arena.proofs.CellLaws.{closed_args_written, below_is}
use Rattle.ir_arena.proofs.func.Func.exchange_args.Goals as goal

pub invariant_of-self : goal.invariant_of-self
invariant_of-self c = closed_args_written c.self.inside.ops.items c.self.inside.blocks.items c.self.inside.regions.items c.self.inside.types.items c.self.inside.root c.args.block c.index_mut-cell.result.now (record { args = c.replace.new.dest; ops = c.index_mut-cell.result.now.ops }) (grind (arith, common_steps)) c.index_mut-cell.ensures.value refl c.self.invariant
    (below_is (length c.self.inside.types.items) c.replace.new.dest.items c.args.args.items (grind (arith, common_steps)) (subst (λ (a : Arena). AllBelow (length a.flat.types) c.args.args.items) (sym c.self.view_is) c.requires.args))
