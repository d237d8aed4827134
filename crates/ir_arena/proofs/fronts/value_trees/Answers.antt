use Rattle.std.proofs.Common.{arith, sym, subst, ◌∙◌}
use Rattle.std.proofs.lemmas.Grind.{common_steps}
use Rattle.key_model.specs.declared.handle.Handle.{Handle}
use Rattle.key_model.specs.declared.key.Key.TheVariants.{OfType}
use Rattle.flat_model.specs.Shows.{Itself, ValueShows}
use Rattle.flat_model.proofs.GrowthLaws.{kept_on}
use Rattle.ir_arena.proofs.ToTreeLaws.{value_read, zip_all}
use Rattle.ir_arena.proofs.fronts.value_trees.Goals as goal

pub loop-value-preserved : goal.loop-value-preserved
loop-value-preserved g c = record {
  ready = grind (arith, common_steps);
  fixed = grind (arith, common_steps);
  cap = grind (arith, common_steps);
  kept = kept_on _ _ _ c.loop-value.invariant.kept c.type_of_handle.ensures.kept;
  trees = value_read (g.I.Interner.holds c.args.i.now) (g.I.Interner.holds c.loop-value.i) c.args.f.now.flat c.args.values.now c.loop-value.trees c.push.new.self c.loop-value.value-index c.in_ok-ty.ty c.loop-value.invariant.kept c.loop-value.invariant.trees (grind (arith, common_steps))
      (λ t h. c.in_ok-ty.ensures.tree t (subst (λ (y : Handle). g.I.Interner.holds c.loop-value.i y (OfType t)) (sym c.type_of.ensures) h)) (grind (arith, common_steps));
}

pub returns-clause-tree : goal.returns-clause-tree
returns-clause-tree g c = λ ts z. c.loop-value.invariant.trees ts z ∙ zip_all (ValueShows (g.I.Interner.holds c.args.i.now) Itself c.args.f.now.flat) c.args.values.now ts c.loop-value.value-index z (omega arith)
