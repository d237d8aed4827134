use Rattle.std.proofs.Common.{◌≡◌, take}
use Rattle.std.specs.List.{AllZip}
use Rattle.flat_model.specs.Growth.{Kept}
use Rattle.ir_arena.specs.Modules.{ArenaShowsSame}
use Rattle.ir_arena.proofs.module_trees.build_funcs.Given as goal

abbrev pub invariant-loop-tree : goal.invariant-loop-tree
invariant-loop-tree g l = record {
  ready : g.I.Interner.ready l.i;
  fixed : g.I.Interner.fixed l.i ≡ g.I.Interner.fixed l.initial.i;
  cap : g.I.Interner.cap l.i ≡ g.I.Interner.cap l.initial.i;
  kept : Kept (g.I.Interner.holds l.initial.i) (g.I.Interner.holds l.i);
  shows : AllZip (ArenaShowsSame (g.I.Interner.holds l.i)) l.funcs (take l.tree-index l.trees);
}
