use Rattle.std.proofs.Common.{arith, sym, subst, List, ℕ}
use Rattle.std.specs.List.{AllZip}
use Rattle.std.proofs.lemmas.Grind.{common_steps}
use Rattle.tree_model.specs.declared.type_tree.TypeTree.{TypeTree}
use Rattle.tree_model.specs.declared.op_tree.OpTree.{OpTree}
use Rattle.tree_model.specs.declared.op_tree.BlockTree.{BlockTree}
use Rattle.tree_model.specs.declared.op_tree.RegionTree.{RegionTree}
use Rattle.flat_model.specs.Shows.{ValueShows, OpsShow, RegionsShow, BlocksShow}
use Rattle.flat_model.proofs.GrowthLaws.{built_on, kept_on}
use Rattle.ir_arena.specs.Building.{nodes_of, Names}
use Rattle.ir_arena.proofs.BuildLaws.{op_within, op_made, region_made, block_made, block_within, next_op, next_region, next_block}
use Rattle.flat_model.proofs.GrowthLaws.{blocks_inside}
use Rattle.ir_arena.proofs.build.+build.Goals as goal

pub build_op-returns-clause-built : goal.build_op-returns-clause-built
build_op-returns-clause-built g t c = built_on _ _ _ _ _ c.build_values.ensures.built (built_on _ _ _ _ _ c.build_regions.ensures.built (c.push_op.ensures.built _ _ (op_within (g.I.Interner.holds c.build_values.new.i) (g.I.Interner.holds c.build_regions.new.i) (Names c.args.n.now.values) (Names c.args.n.now.labels) _ _ (nodes_of c.build_values.new.b) (nodes_of c.build_regions.new.b) c.in_ok-node.node c.args.tree.now c.in_ok-results.results.items c.in_ok-regions.regions.items c.build_regions.ensures.built (subst (λ (ts : List (ℕ × TypeTree)). AllZip (ValueShows (g.I.Interner.holds c.build_values.new.i) (Names c.args.n.now.values) (nodes_of c.build_values.new.b)) c.in_ok-results.results.items ts) c.as_slice.ensures c.in_ok-results.ensures.shows) (subst (λ (ts : List RegionTree). RegionsShow (g.I.Interner.holds c.build_regions.new.i) (Names c.args.n.now.values) (Names c.args.n.now.labels) (nodes_of c.build_regions.new.b) c.in_ok-regions.regions.items ts) c.as_slice-2.ensures c.in_ok-regions.ensures.shows) c.in_ok-node.ensures.results c.in_ok-node.ensures.regions c.in_ok-node.ensures.operands c.in_ok-node.ensures.successors)))

pub build_op-returns-clause-shows : goal.build_op-returns-clause-shows
build_op-returns-clause-shows g t c = op_made (g.I.Interner.holds c.build_values.new.i) (g.I.Interner.holds c.build_regions.new.i) (g.I.Interner.holds c.node_of.new.i) (Names c.args.n.now.values) (Names c.args.n.now.labels) _ _ (nodes_of c.build_values.new.b) (nodes_of c.build_regions.new.b) (nodes_of c.push_op.new.b)
    c.in_ok-node.node c.args.tree.now c.in_ok-op.op c.in_ok-results.results.items c.in_ok-regions.regions.items
    c.build_regions.ensures.kept c.node_of.ensures.kept c.build_regions.ensures.built (subst (λ (ts : List (ℕ × TypeTree)). AllZip (ValueShows (g.I.Interner.holds c.build_values.new.i) (Names c.args.n.now.values) (nodes_of c.build_values.new.b)) c.in_ok-results.results.items ts) c.as_slice.ensures c.in_ok-results.ensures.shows) (subst (λ (ts : List RegionTree). RegionsShow (g.I.Interner.holds c.build_regions.new.i) (Names c.args.n.now.values) (Names c.args.n.now.labels) (nodes_of c.build_regions.new.b) c.in_ok-regions.regions.items ts) c.as_slice-2.ensures c.in_ok-regions.ensures.shows) c.in_ok-node.ensures.shows c.in_ok-node.ensures.results c.in_ok-node.ensures.regions
    (grind (arith, common_steps)) (grind (arith, common_steps))

pub build_region-returns-clause-built : goal.build_region-returns-clause-built
build_region-returns-clause-built g t c = built_on _ _ _ _ _ c.build_blocks.ensures.built (c.push_region.ensures.built _ _ (blocks_inside (g.I.Interner.holds c.build_blocks.new.i) (Names c.args.n.now.values) (Names c.args.n.now.labels) (nodes_of c.build_blocks.new.b) c.in_ok-blocks.ensures.shows))

pub build_region-returns-clause-shows : goal.build_region-returns-clause-shows
build_region-returns-clause-shows g t c = region_made (g.I.Interner.holds c.build_blocks.new.i) (Names c.args.n.now.values) (Names c.args.n.now.labels) (nodes_of c.build_blocks.new.b) (nodes_of c.push_region.new.b) c.in_ok-blocks.blocks.items _ c.in_ok-region.region
    (subst (λ (ts : List BlockTree). BlocksShow (g.I.Interner.holds c.build_blocks.new.i) (Names c.args.n.now.values) (Names c.args.n.now.labels) (nodes_of c.build_blocks.new.b) c.in_ok-blocks.blocks.items ts) c.as_slice.ensures c.in_ok-blocks.ensures.shows)
    (grind (arith, common_steps)) (grind (arith, common_steps))

pub build_block-returns-then-eq-clause-built : goal.build_block-returns-then-eq-clause-built
build_block-returns-then-eq-clause-built g t c = built_on _ _ _ _ _ c.build_values.ensures.built (built_on _ _ _ _ _ c.build_ops.ensures.built (c.push_block.ensures.built _ _ (block_within (g.I.Interner.holds c.build_values.new.i) (g.I.Interner.holds c.build_ops.new.i) (Names c.args.n.now.values) (Names c.args.n.now.labels) _ _ (nodes_of c.build_values.new.b) (nodes_of c.build_ops.new.b) (record { args = c.in_ok-args.args.items; ops = c.from_vec-ops.result.list }) c.args.tree.now c.build_ops.ensures.built (subst (λ (ts : List (ℕ × TypeTree)). AllZip (ValueShows (g.I.Interner.holds c.build_values.new.i) (Names c.args.n.now.values) (nodes_of c.build_values.new.b)) c.in_ok-args.args.items ts) c.as_slice.ensures c.in_ok-args.ensures.shows) (subst (λ (ts : List OpTree). OpsShow (g.I.Interner.holds c.build_ops.new.i) (Names c.args.n.now.values) (Names c.args.n.now.labels) (nodes_of c.build_ops.new.b) c.from_vec-ops.result.list ts) c.as_slice-2.ensures (subst (λ (os : List ℕ). OpsShow (g.I.Interner.holds c.build_ops.new.i) (Names c.args.n.now.values) (Names c.args.n.now.labels) (nodes_of c.build_ops.new.b) os c.as_slice-2.result.now) (sym c.from_vec-ops.ensures) c.in_ok-ops.ensures.shows)))))

pub build_block-returns-else-eq-clause-built : goal.build_block-returns-else-eq-clause-built
build_block-returns-else-eq-clause-built g t c = built_on _ _ _ _ _ c.build_values.ensures.built (built_on _ _ _ _ _ c.build_ops.ensures.built (c.push_block.ensures.built _ _ (block_within (g.I.Interner.holds c.build_values.new.i) (g.I.Interner.holds c.build_ops.new.i) (Names c.args.n.now.values) (Names c.args.n.now.labels) _ _ (nodes_of c.build_values.new.b) (nodes_of c.build_ops.new.b) (record { args = c.in_ok-args.args.items; ops = c.from_vec-ops.result.list }) c.args.tree.now c.build_ops.ensures.built (subst (λ (ts : List (ℕ × TypeTree)). AllZip (ValueShows (g.I.Interner.holds c.build_values.new.i) (Names c.args.n.now.values) (nodes_of c.build_values.new.b)) c.in_ok-args.args.items ts) c.as_slice.ensures c.in_ok-args.ensures.shows) (subst (λ (ts : List OpTree). OpsShow (g.I.Interner.holds c.build_ops.new.i) (Names c.args.n.now.values) (Names c.args.n.now.labels) (nodes_of c.build_ops.new.b) c.from_vec-ops.result.list ts) c.as_slice-2.ensures (subst (λ (os : List ℕ). OpsShow (g.I.Interner.holds c.build_ops.new.i) (Names c.args.n.now.values) (Names c.args.n.now.labels) (nodes_of c.build_ops.new.b) os c.as_slice-2.result.now) (sym c.from_vec-ops.ensures) c.in_ok-ops.ensures.shows)))))

pub build_block-returns-then-eq-clause-shows : goal.build_block-returns-then-eq-clause-shows
build_block-returns-then-eq-clause-shows g t c = block_made (g.I.Interner.holds c.build_values.new.i) (g.I.Interner.holds c.build_ops.new.i) (Names c.args.n.now.values) (Names c.args.n.now.labels) _ _ (nodes_of c.build_values.new.b) (nodes_of c.build_ops.new.b) (nodes_of c.push_block.new.b) (record { args = c.in_ok-args.args.items; ops = c.from_vec-ops.result.list }) c.args.tree.now c.in_ok-block.block
    c.build_ops.ensures.kept c.build_ops.ensures.built (subst (λ (ts : List (ℕ × TypeTree)). AllZip (ValueShows (g.I.Interner.holds c.build_values.new.i) (Names c.args.n.now.values) (nodes_of c.build_values.new.b)) c.in_ok-args.args.items ts) c.as_slice.ensures c.in_ok-args.ensures.shows) (subst (λ (ts : List OpTree). OpsShow (g.I.Interner.holds c.build_ops.new.i) (Names c.args.n.now.values) (Names c.args.n.now.labels) (nodes_of c.build_ops.new.b) c.from_vec-ops.result.list ts) c.as_slice-2.ensures (subst (λ (os : List ℕ). OpsShow (g.I.Interner.holds c.build_ops.new.i) (Names c.args.n.now.values) (Names c.args.n.now.labels) (nodes_of c.build_ops.new.b) os c.as_slice-2.result.now) (sym c.from_vec-ops.ensures) c.in_ok-ops.ensures.shows)) (grind (arith, common_steps)) (grind (arith, common_steps)) (grind (arith, common_steps))

pub build_ops-loop-tree-preserved : goal.build_ops-loop-tree-preserved
build_ops-loop-tree-preserved g t c = record {
  ready = grind (arith, common_steps);
  fixed = grind (arith, common_steps);
  cap = grind (arith, common_steps);
  kept = kept_on _ _ _ c.loop-tree.invariant.kept c.build_op.ensures.kept;
  built = built_on _ _ _ _ _ c.loop-tree.invariant.built c.build_op.ensures.built;
  shows = next_op (g.I.Interner.holds c.loop-tree.i) (g.I.Interner.holds c.build_op.new.i) (Names c.args.n.now.values) (Names c.args.n.now.labels) _ _ (nodes_of c.loop-tree.b) (nodes_of c.build_op.new.b) c.loop-tree.places.items c.pushed.new.numbers.items c.loop-tree.tree-index c.in_ok-op.op c.args.trees.now c.tree-item.result
      c.build_op.ensures.kept c.build_op.ensures.built c.loop-tree.invariant.shows c.in_ok-op.ensures.shows c.tree-item.is (grind (arith, common_steps)) (grind (arith, common_steps));
}

pub build_regions-loop-tree-preserved : goal.build_regions-loop-tree-preserved
build_regions-loop-tree-preserved g t c = record {
  ready = grind (arith, common_steps);
  fixed = grind (arith, common_steps);
  cap = grind (arith, common_steps);
  kept = kept_on _ _ _ c.loop-tree.invariant.kept c.build_region.ensures.kept;
  built = built_on _ _ _ _ _ c.loop-tree.invariant.built c.build_region.ensures.built;
  shows = next_region (g.I.Interner.holds c.loop-tree.i) (g.I.Interner.holds c.build_region.new.i) (Names c.args.n.now.values) (Names c.args.n.now.labels) _ _ (nodes_of c.loop-tree.b) (nodes_of c.build_region.new.b) c.loop-tree.places.items c.pushed.new.numbers.items c.loop-tree.tree-index c.in_ok-region.region c.args.trees.now c.tree-item.result
      c.build_region.ensures.kept c.build_region.ensures.built c.loop-tree.invariant.shows c.in_ok-region.ensures.shows c.tree-item.is (grind (arith, common_steps)) (grind (arith, common_steps));
}

pub build_blocks-loop-tree-preserved : goal.build_blocks-loop-tree-preserved
build_blocks-loop-tree-preserved g t c = record {
  ready = grind (arith, common_steps);
  fixed = grind (arith, common_steps);
  cap = grind (arith, common_steps);
  kept = kept_on _ _ _ c.loop-tree.invariant.kept c.build_block.ensures.kept;
  built = built_on _ _ _ _ _ c.loop-tree.invariant.built c.build_block.ensures.built;
  shows = next_block (g.I.Interner.holds c.loop-tree.i) (g.I.Interner.holds c.build_block.new.i) (Names c.args.n.now.values) (Names c.args.n.now.labels) _ _ (nodes_of c.loop-tree.b) (nodes_of c.build_block.new.b) c.loop-tree.places.items c.pushed.new.numbers.items c.loop-tree.tree-index c.in_ok-block.block c.args.trees.now c.tree-item.result
      c.build_block.ensures.kept c.build_block.ensures.built c.loop-tree.invariant.shows c.in_ok-block.ensures.shows c.tree-item.is (grind (arith, common_steps)) (grind (arith, common_steps));
}
