use Rattle.std.proofs.Common.{◌≡◌, ◌*◌, ◌+◌, List, take}
use Rattle.tree_model.specs.declared.op_tree.OpTree.{OpTree}
use Rattle.tree_model.specs.declared.op_tree.BlockTree.{BlockTree}
use Rattle.tree_model.specs.declared.op_tree.RegionTree.{RegionTree}
use Rattle.flat_model.specs.Flat.{block_at}
use Rattle.flat_model.specs.Growth.{Kept}
use Rattle.flat_model.specs.Shows.{Itself, OpsShow, RegionsShow, BlocksShow}
use Rattle.ir_arena.proofs.to_trees.+to_tree.Given as goal

abbrev pub invariant-region_trees-loop-region : goal.invariant-region_trees-loop-region
invariant-region_trees-loop-region g l = record {
  ready : g.I.Interner.ready l.i;
  fixed : g.I.Interner.fixed l.i ≡ g.I.Interner.fixed l.initial.i;
  cap : g.I.Interner.cap l.i ≡ g.I.Interner.cap l.initial.i;
  kept : Kept (g.I.Interner.holds l.initial.i) (g.I.Interner.holds l.i);
  trees : (ts : List RegionTree) → RegionsShow (g.I.Interner.holds l.initial.i) Itself Itself l.f.flat l.regions ts → l.trees ≡ take l.region-index ts;
}

abbrev pub invariant-block_trees-loop-block : goal.invariant-block_trees-loop-block
invariant-block_trees-loop-block g l = record {
  ready : g.I.Interner.ready l.i;
  fixed : g.I.Interner.fixed l.i ≡ g.I.Interner.fixed l.initial.i;
  cap : g.I.Interner.cap l.i ≡ g.I.Interner.cap l.initial.i;
  kept : Kept (g.I.Interner.holds l.initial.i) (g.I.Interner.holds l.i);
  trees : (ts : List BlockTree) → BlocksShow (g.I.Interner.holds l.initial.i) Itself Itself l.f.flat l.blocks ts → l.trees ≡ take l.block-index ts;
}

abbrev pub invariant-op_trees-loop-place : goal.invariant-op_trees-loop-place
invariant-op_trees-loop-place g l = record {
  ready : g.I.Interner.ready l.i;
  fixed : g.I.Interner.fixed l.i ≡ g.I.Interner.fixed l.initial.i;
  cap : g.I.Interner.cap l.i ≡ g.I.Interner.cap l.initial.i;
  kept : Kept (g.I.Interner.holds l.initial.i) (g.I.Interner.holds l.i);
  trees : (ts : List OpTree) → OpsShow (g.I.Interner.holds l.initial.i) Itself Itself l.f.flat (block_at l.f.flat l.block).ops ts → l.trees ≡ take l.place ts;
}

abbrev pub decreases-op_tree : goal.decreases-op_tree
decreases-op_tree g l = 5 * l.levels + 1

abbrev pub decreases-op_trees : goal.decreases-op_trees
decreases-op_trees g l = 5 * l.levels + 2

abbrev pub decreases-block_tree : goal.decreases-block_tree
decreases-block_tree g l = 5 * l.levels + 3

abbrev pub decreases-block_trees : goal.decreases-block_trees
decreases-block_trees g l = 5 * l.levels + 4

abbrev pub decreases-region_trees : goal.decreases-region_trees
decreases-region_trees g l = 5 * l.levels + 5
