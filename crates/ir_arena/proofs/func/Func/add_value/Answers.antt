use Rattle.std.proofs.Common.{◌≡◌, arith, sym, subst, ◌++◌, ◌∷◌, []}
use Rattle.std.proofs.lemmas.Grind.{common_steps}
use Rattle.flat_model.specs.Flat.{IsClosed}
use Rattle.edit_model.proofs.ClosedLaws.{closed_value}
use Rattle.ir_arena.specs.Arena.{flat_of}
use Rattle.ir_arena.proofs.func.Func.add_value.Goals as goal

pub invariant_of-self-2 : goal.invariant_of-self-2
invariant_of-self-2 c = let e : c.push.new.self.items ≡ c.self.inside.types.items ++ c.args.ty ∷ [] = grind (arith, common_steps) in
    subst (λ ts. IsClosed (flat_of c.self.inside.ops.items c.self.inside.blocks.items c.self.inside.regions.items ts c.self.inside.root)) (sym e) (closed_value (flat_of c.self.inside.ops.items c.self.inside.blocks.items c.self.inside.regions.items c.self.inside.types.items c.self.inside.root) c.args.ty c.self.invariant)
