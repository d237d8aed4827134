use Rattle.std.proofs.Common.{arith}
use Rattle.std.proofs.lemmas.Grind.{common_steps}
use Rattle.flat_model.proofs.GrowthLaws.{kept_on, built_on}
use Rattle.ir_arena.specs.Building.{nodes_of, Names}
use Rattle.ir_arena.proofs.BuildLaws.{next_value}
use Rattle.ir_arena.proofs.values.build_values.Goals as goal

pub loop-value-preserved : goal.loop-value-preserved
loop-value-preserved g c = record {
  ready = grind (arith, common_steps);
  fixed = grind (arith, common_steps);
  cap = grind (arith, common_steps);
  kept = kept_on _ _ _ c.loop-value.invariant.kept c.build_value.ensures.kept;
  built = built_on _ _ _ _ _ c.loop-value.invariant.built c.build_value.ensures.built;
  shows = next_value (g.I.Interner.holds c.loop-value.i) (g.I.Interner.holds c.build_value.new.i) (Names c.args.n.now.values) _ _ (nodes_of c.loop-value.b) (nodes_of c.build_value.new.b) c.loop-value.places.items c.pushed.new.numbers.items c.args.values.now c.loop-value.value-index _ c.value-item.result
      c.build_value.ensures.kept c.build_value.ensures.built c.loop-value.invariant.shows c.in_ok-place.ensures.shows c.value-item.is (grind (arith, common_steps)) (grind (arith, common_steps));
}
