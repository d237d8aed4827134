use Rattle.std.proofs.Common.{arith, ◌∙◌}
use Rattle.std.proofs.lemmas.Grind.{common_steps}
use Rattle.flat_model.proofs.GrowthLaws.{kept_on}
use Rattle.ir_arena.specs.Modules.{ArenaShows}
use Rattle.ir_arena.proofs.ModuleLaws.{func_again}
use Rattle.ir_arena.proofs.ToTreeLaws.{zip_all}
use Rattle.ir_arena.proofs.module_trees.func_trees.Goals as goal

pub loop-func-preserved : goal.loop-func-preserved
loop-func-preserved g c = record {
  ready = grind (arith, common_steps);
  fixed = grind (arith, common_steps);
  cap = grind (arith, common_steps);
  kept = kept_on _ _ _ c.loop-func.invariant.kept c.to_tree.ensures.kept;
  trees = func_again (g.I.Interner.holds c.args.i.now) (g.I.Interner.holds c.loop-func.i) c.args.funcs.now c.func-item.result c.loop-func.trees c.push.new.self c.loop-func.func-index c.in_ok-tree.tree c.loop-func.invariant.kept c.loop-func.invariant.trees c.func-item.is (grind (arith, common_steps)) c.in_ok-tree.ensures.tree (grind (arith, common_steps));
}

pub returns-clause-trees : goal.returns-clause-trees
returns-clause-trees g c = λ ts z. c.loop-func.invariant.trees ts z ∙ zip_all (ArenaShows (g.I.Interner.holds c.args.i.now)) c.args.funcs.now ts c.loop-func.func-index z (omega arith)
