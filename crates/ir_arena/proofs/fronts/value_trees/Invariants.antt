use Rattle.std.proofs.Common.{◌≡◌, ℕ, List, take}
use Rattle.std.specs.List.{AllZip}
use Rattle.tree_model.specs.declared.type_tree.TypeTree.{TypeTree}
use Rattle.flat_model.specs.Growth.{Kept}
use Rattle.flat_model.specs.Shows.{Itself, ValueShows}
use Rattle.ir_arena.proofs.fronts.value_trees.Given as goal

abbrev pub invariant-loop-value : goal.invariant-loop-value
invariant-loop-value g l = record {
  ready : g.I.Interner.ready l.i;
  fixed : g.I.Interner.fixed l.i ≡ g.I.Interner.fixed l.initial.i;
  cap : g.I.Interner.cap l.i ≡ g.I.Interner.cap l.initial.i;
  kept : Kept (g.I.Interner.holds l.initial.i) (g.I.Interner.holds l.i);
  trees : (ts : List (ℕ × TypeTree)) → AllZip (ValueShows (g.I.Interner.holds l.initial.i) Itself l.f.flat) l.values ts → l.trees ≡ take l.value-index ts;
}
