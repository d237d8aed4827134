use Rattle.std.proofs.Common.{arith, sym, subst, ◌∙◌, List, ℕ}
use Rattle.std.specs.List.{AllZip}
use Rattle.std.proofs.lemmas.Grind.{common_steps}
use Rattle.tree_model.specs.declared.op_tree.OpTree.{out-OpTree}
use Rattle.tree_model.specs.declared.op_tree.BlockTree.{out-BlockTree}
use Rattle.flat_model.specs.Flat.{block_at, op_at}
use Rattle.flat_model.specs.Shows.{Itself, ValueShows, RegionsShow}
use Rattle.flat_model.proofs.GrowthLaws.{kept_on, grown_refl, ops_later, front_later}
use Rattle.ir_arena.proofs.ToTreeLaws.{block_read, op_again, ops_all, block_again, blocks_all, region_again, regions_all, split_op}
use Rattle.ir_arena.proofs.to_trees.+to_tree.Goals as goal

pub op_trees-loop-place-preserved : goal.op_trees-loop-place-preserved
op_trees-loop-place-preserved g t c = record {
  ready = grind (arith, common_steps);
  fixed = grind (arith, common_steps);
  cap = grind (arith, common_steps);
  kept = kept_on _ _ _ c.loop-place.invariant.kept c.op_tree.ensures.kept;
  trees = op_again (g.I.Interner.holds c.args.i.now) (g.I.Interner.holds c.loop-place.i) c.args.f.now.flat (block_at c.args.f.now.flat c.args.block).ops c.loop-place.trees c.push.new.self c.loop-place.place c.op_at.result c.in_ok-tree.tree c.loop-place.invariant.kept c.loop-place.invariant.trees (grind (arith, common_steps)) c.op_at.ensures.op c.in_ok-tree.ensures.tree (grind (arith, common_steps));
}

pub op_trees-returns-clause-tree : goal.op_trees-returns-clause-tree
op_trees-returns-clause-tree g t c = λ ts z. c.loop-place.invariant.trees ts z ∙ ops_all (g.I.Interner.holds c.args.i.now) (g.I.Interner.holds c.args.i.now) c.args.f.now.flat c.loop-place.place z (grind (arith, common_steps))

pub block_trees-loop-block-preserved : goal.block_trees-loop-block-preserved
block_trees-loop-block-preserved g t c = record {
  ready = grind (arith, common_steps);
  fixed = grind (arith, common_steps);
  cap = grind (arith, common_steps);
  kept = kept_on _ _ _ c.loop-block.invariant.kept c.block_tree.ensures.kept;
  trees = block_again (g.I.Interner.holds c.args.i.now) (g.I.Interner.holds c.loop-block.i) c.args.f.now.flat c.args.blocks.now c.loop-block.trees c.push.new.self c.loop-block.block-index c.in_ok-tree.tree c.loop-block.invariant.kept c.loop-block.invariant.trees (grind (arith, common_steps)) c.in_ok-tree.ensures.tree (grind (arith, common_steps));
}

pub block_trees-returns-clause-tree : goal.block_trees-returns-clause-tree
block_trees-returns-clause-tree g t c = λ ts z. c.loop-block.invariant.trees ts z ∙ blocks_all (g.I.Interner.holds c.args.i.now) (g.I.Interner.holds c.args.i.now) c.args.f.now.flat c.loop-block.block-index z (omega arith)

pub region_trees-loop-region-preserved : goal.region_trees-loop-region-preserved
region_trees-loop-region-preserved g t c = record {
  ready = grind (arith, common_steps);
  fixed = grind (arith, common_steps);
  cap = grind (arith, common_steps);
  kept = kept_on _ _ _ c.loop-region.invariant.kept c.block_trees.ensures.kept;
  trees = region_again (g.I.Interner.holds c.args.i.now) (g.I.Interner.holds c.loop-region.i) c.args.f.now.flat c.args.regions.now c.blocks-in-loop-region.result.now c.loop-region.trees c.push.new.self c.loop-region.region-index c.in_ok-blocks.blocks c.loop-region.invariant.kept c.loop-region.invariant.trees (grind (arith, common_steps)) c.blocks-in-loop-region.ensures.blocks c.in_ok-blocks.ensures.tree (grind (arith, common_steps));
}

pub region_trees-returns-clause-tree : goal.region_trees-returns-clause-tree
region_trees-returns-clause-tree g t c = λ ts z. c.loop-region.invariant.trees ts z ∙ regions_all (g.I.Interner.holds c.args.i.now) (g.I.Interner.holds c.args.i.now) c.args.f.now.flat c.loop-region.region-index z (omega arith)

pub block_tree-returns-clause-tree : goal.block_tree-returns-clause-tree
block_tree-returns-clause-tree g t c = λ u s o. block_read u c.args.block c.in_ok-args.args c.in_ok-ops.ops s.label
    (c.in_ok-args.ensures.tree (out-BlockTree u).args (subst (λ (xs : List ℕ). AllZip (ValueShows (g.I.Interner.holds c.args.i.now) Itself c.args.f.now.flat) xs (out-BlockTree u).args) (sym c.args-2.ensures.args) s.args))
    (c.in_ok-ops.ensures.tree (out-BlockTree u).ops (ops_later (g.I.Interner.holds c.args.i.now) (g.I.Interner.holds c.value_trees.new.i) Itself Itself c.args.f.now.flat c.args.f.now.flat c.value_trees.ensures.kept (grown_refl c.args.f.now.flat) o))

pub op_tree-returns-clause-tree : goal.op_tree-returns-clause-tree
op_tree-returns-clause-tree g t c = λ u s. split_op (g.I.Interner.holds c.args.i.now) (g.I.Interner.holds c.args.i.now) c.args.f.now.flat c.args.op u s
    (λ n r. c.front_tree.ensures.tree u (front_later (g.I.Interner.holds c.args.i.now) (g.I.Interner.holds c.region_trees.new.i) Itself Itself c.args.f.now.flat c.args.f.now.flat c.region_trees.ensures.kept (grown_refl c.args.f.now.flat) (op_at c.args.f.now.flat c.args.op) u n)
    (c.in_ok-regions.ensures.tree (out-OpTree u).regions (subst (λ (xs : List ℕ). RegionsShow (g.I.Interner.holds c.args.i.now) Itself Itself c.args.f.now.flat xs (out-OpTree u).regions) (sym c.regions.ensures.regions) r)))
