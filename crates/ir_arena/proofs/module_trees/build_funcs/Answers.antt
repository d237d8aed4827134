use Rattle.std.proofs.Common.{arith}
use Rattle.std.proofs.lemmas.Grind.{common_steps}
use Rattle.flat_model.proofs.GrowthLaws.{kept_on}
use Rattle.ir_arena.proofs.ModuleLaws.{func_made}
use Rattle.ir_arena.proofs.module_trees.build_funcs.Goals as goal

pub loop-tree-preserved : goal.loop-tree-preserved
loop-tree-preserved g c = record {
  ready = (grind (arith, common_steps));
  fixed = (grind (arith, common_steps));
  cap = (grind (arith, common_steps));
  kept = kept_on _ _ _ c.loop-tree.invariant.kept c.from_tree.ensures.kept;
  shows = func_made (g.I.Interner.holds c.loop-tree.i) (g.I.Interner.holds c.from_tree.new.i) c.loop-tree.funcs c.push.new.self c.args.trees.now c.loop-tree.tree-index c.in_ok-func.func c.tree-item.result
      c.from_tree.ensures.kept c.loop-tree.invariant.shows c.in_ok-func.ensures.shows c.tree-item.is (grind (arith, common_steps)) (grind (arith, common_steps));
}
