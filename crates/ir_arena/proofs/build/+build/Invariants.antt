use Rattle.std.proofs.Common.{◌≡◌, take}
use Rattle.flat_model.specs.Growth.{Kept}
use Rattle.flat_model.specs.Shows.{OpsShow, RegionsShow, BlocksShow}
use Rattle.ir_arena.specs.Building.{nodes_of, BuiltBy, Names}
use Rattle.ir_arena.proofs.build.+build.Given as goal

abbrev pub invariant-build_ops-loop-tree : goal.invariant-build_ops-loop-tree
invariant-build_ops-loop-tree g l = record {
  ready : g.I.Interner.ready l.i;
  fixed : g.I.Interner.fixed l.i ≡ g.I.Interner.fixed l.initial.i;
  cap : g.I.Interner.cap l.i ≡ g.I.Interner.cap l.initial.i;
  kept : Kept (g.I.Interner.holds l.initial.i) (g.I.Interner.holds l.i);
  built : BuiltBy l.n l.initial.b l.b;
  shows : OpsShow (g.I.Interner.holds l.i) (Names l.n.values) (Names l.n.labels) (nodes_of l.b) l.places.items (take l.tree-index l.trees);
}

abbrev pub invariant-build_regions-loop-tree : goal.invariant-build_regions-loop-tree
invariant-build_regions-loop-tree g l = record {
  ready : g.I.Interner.ready l.i;
  fixed : g.I.Interner.fixed l.i ≡ g.I.Interner.fixed l.initial.i;
  cap : g.I.Interner.cap l.i ≡ g.I.Interner.cap l.initial.i;
  kept : Kept (g.I.Interner.holds l.initial.i) (g.I.Interner.holds l.i);
  built : BuiltBy l.n l.initial.b l.b;
  shows : RegionsShow (g.I.Interner.holds l.i) (Names l.n.values) (Names l.n.labels) (nodes_of l.b) l.places.items (take l.tree-index l.trees);
}

abbrev pub invariant-build_blocks-loop-tree : goal.invariant-build_blocks-loop-tree
invariant-build_blocks-loop-tree g l = record {
  ready : g.I.Interner.ready l.i;
  fixed : g.I.Interner.fixed l.i ≡ g.I.Interner.fixed l.initial.i;
  cap : g.I.Interner.cap l.i ≡ g.I.Interner.cap l.initial.i;
  kept : Kept (g.I.Interner.holds l.initial.i) (g.I.Interner.holds l.i);
  built : BuiltBy l.n l.initial.b l.b;
  shows : BlocksShow (g.I.Interner.holds l.i) (Names l.n.values) (Names l.n.labels) (nodes_of l.b) l.places.items (take l.tree-index l.trees);
}
