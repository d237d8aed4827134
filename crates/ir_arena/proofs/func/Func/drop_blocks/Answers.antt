use Rattle.std.proofs.Common.{sym, ap, subst, ◌∙◌, take}
use Rattle.flat_model.specs.Flat.{Flat, IsClosed}
use Rattle.ir_arena.specs.Arena.{Arena, flat_of, rooms_of}
use Rattle.ir_arena.proofs.CellLaws.{blocks_cut, rooms_cut}
use Rattle.ir_arena.proofs.func.Func.drop_blocks.Goals as goal

pub invariant_of-self : goal.invariant_of-self
invariant_of-self c = subst (λ bs. IsClosed (flat_of c.self.inside.ops.items bs c.self.inside.regions.items c.self.inside.types.items c.self.inside.root)) (sym c.truncate.ensures.items) (subst IsClosed (sym (blocks_cut c.self.inside.ops.items c.self.inside.blocks.items c.self.inside.regions.items c.self.inside.types.items c.self.inside.root c.args.count))
    (subst (λ (a : Arena). let f : Flat = record a.flat { blocks = take c.args.count a.flat.blocks } in IsClosed f) (sym c.self.view_is) c.requires))

pub returns-clause-flat : goal.returns-clause-flat
returns-clause-flat c = ap (λ bs. flat_of c.self.inside.ops.items bs c.self.inside.regions.items c.self.inside.types.items c.self.inside.root) c.truncate.ensures.items ∙ blocks_cut c.self.inside.ops.items c.self.inside.blocks.items c.self.inside.regions.items c.self.inside.types.items c.self.inside.root c.args.count
    ∙ ap (λ (a : Arena). let f : Flat = record a.flat { blocks = take c.args.count a.flat.blocks } in f) c.self.view_is

pub returns-clause-rooms : goal.returns-clause-rooms
returns-clause-rooms c = ap rooms_of c.truncate.ensures.items ∙ rooms_cut c.self.inside.blocks.items c.args.count ∙ ap (λ (a : Arena). take c.args.count a.rooms) c.self.view_is
