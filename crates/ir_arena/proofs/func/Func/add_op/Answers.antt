use Rattle.std.proofs.Common.{◌≡◌, arith, sym, ap, subst, ◌∙◌, ◌++◌, ◌∷◌, []}
use Rattle.std.proofs.lemmas.Grind.{common_steps}
use Rattle.flat_model.specs.Flat.{IsClosed}
use Rattle.edit_model.specs.Writes.{with_op}
use Rattle.edit_model.proofs.ClosedLaws.{closed_op}
use Rattle.ir_arena.specs.Arena.{Arena, flat_of}
use Rattle.ir_arena.proofs.func.Func.add_op.Goals as goal

pub invariant_of-self-else-is_err : goal.invariant_of-self-else-is_err
invariant_of-self-else-is_err c =
    let e : c.push.new.self.items ≡ c.self.inside.ops.items ++ c.args.node ∷ [] = grind (arith, common_steps) in
    let d : c.extend_from_slice.new.self.items ≡ c.self.inside.types.items ++ c.args.types.now = grind (arith, common_steps) in
    subst IsClosed (ap (λ (a : Arena). with_op a.flat c.args.node c.args.types.now) (sym c.self.view_is)
    ∙ ap (λ os. flat_of os c.self.inside.blocks.items c.self.inside.regions.items (c.self.inside.types.items ++ c.args.types.now) c.self.inside.root) (sym e)
    ∙ ap (λ ts. flat_of c.push.new.self.items c.self.inside.blocks.items c.self.inside.regions.items ts c.self.inside.root) (sym d))
    (closed_op c.args.self.now.flat c.args.node c.args.types.now (subst (λ (a : Arena). IsClosed a.flat) c.self.view_is c.self.invariant) c.requires)
