use Rattle.std.proofs.Common.{sym, subst, ◌∙◌}
use Rattle.flat_model.specs.Flat.{Flat, IsClosed}
use Rattle.ir_arena.specs.Building.{nodes_of}
use Rattle.ir_arena.proofs.ClosingLaws.{closed_from, not_closed}
use Rattle.ir_arena.proofs.builder.FuncBuilder.finish.Goals as goal

pub returns-then-not-is_closed-clause-none : goal.returns-then-not-is_closed-clause-none
returns-then-not-is_closed-clause-none c = let f : Flat = record (nodes_of c.self.inside.build) { root = c.args.root } in
    subst (λ (a : Flat). let g : Flat = record a { root = c.args.root } in IsClosed g → ⊥) c.self.view_is (not_closed f (sym c.is_closed.ensures ∙ c.if-not-is_closed.true))

pub invariant_of-result : goal.invariant_of-result
invariant_of-result c = let f : Flat = record (nodes_of c.self.inside.build) { root = c.args.root } in closed_from f (sym c.is_closed.ensures ∙ c.if-not-is_closed.false)
