use Rattle.std.proofs.Common.{◌≡◌, take}
use Rattle.std.specs.List.{AllZip}
use Rattle.flat_model.specs.Growth.{Kept}
use Rattle.flat_model.specs.Shows.{EntryShows}
use Rattle.ir_arena.proofs.dicts.dict_handles.Given as goal

abbrev pub invariant-loop-entry : goal.invariant-loop-entry
invariant-loop-entry g l = record {
  ready : g.I.Interner.ready l.i;
  fixed : g.I.Interner.fixed l.i ≡ g.I.Interner.fixed l.initial.i;
  cap : g.I.Interner.cap l.i ≡ g.I.Interner.cap l.initial.i;
  kept : Kept (g.I.Interner.holds l.initial.i) (g.I.Interner.holds l.i);
  shows : AllZip (EntryShows (g.I.Interner.holds l.i)) l.entries (take l.entry-index l.dict);
}
