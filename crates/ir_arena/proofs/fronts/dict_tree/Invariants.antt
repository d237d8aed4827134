use Rattle.std.proofs.Common.{◌≡◌, ℕ, List, take}
use Rattle.std.specs.List.{AllZip}
use Rattle.tree_model.specs.declared.attr_tree.AttrTree.{AttrTree}
use Rattle.flat_model.specs.Growth.{Kept}
use Rattle.flat_model.specs.Shows.{EntryShows}
use Rattle.ir_arena.proofs.fronts.dict_tree.Given as goal

abbrev pub invariant-loop-entry : goal.invariant-loop-entry
invariant-loop-entry g l = record {
  ready : g.I.Interner.ready l.i;
  fixed : g.I.Interner.fixed l.i ≡ g.I.Interner.fixed l.initial.i;
  cap : g.I.Interner.cap l.i ≡ g.I.Interner.cap l.initial.i;
  kept : Kept (g.I.Interner.holds l.initial.i) (g.I.Interner.holds l.i);
  trees : (ts : List (List ℕ × AttrTree)) → AllZip (EntryShows (g.I.Interner.holds l.initial.i)) l.entries ts → l.trees ≡ take l.entry-index ts;
}
