use Rattle.std.proofs.Common.{◌≡◌, List, take}
use Rattle.std.specs.List.{AllZip}
use Rattle.tree_model.specs.declared.op_tree.FuncTree.{FuncTree}
use Rattle.flat_model.specs.Growth.{Kept}
use Rattle.ir_arena.specs.Modules.{ArenaShows}
use Rattle.ir_arena.proofs.module_trees.func_trees.Given as goal

abbrev pub invariant-loop-func : goal.invariant-loop-func
invariant-loop-func g l = record {
  ready : g.I.Interner.ready l.i;
  fixed : g.I.Interner.fixed l.i ≡ g.I.Interner.fixed l.initial.i;
  cap : g.I.Interner.cap l.i ≡ g.I.Interner.cap l.initial.i;
  kept : Kept (g.I.Interner.holds l.initial.i) (g.I.Interner.holds l.i);
  trees : (ts : List FuncTree) → AllZip (ArenaShows (g.I.Interner.holds l.initial.i)) l.funcs ts → l.trees ≡ take l.func-index ts;
}
