use Rattle.std.proofs.Common.{◌≡◌, take}
use Rattle.std.specs.List.{AllZip}
use Rattle.flat_model.specs.Growth.{Kept}
use Rattle.flat_model.specs.Shows.{ValueShows}
use Rattle.ir_arena.specs.Building.{nodes_of, BuiltBy, Names}
use Rattle.ir_arena.proofs.values.build_values.Given as goal

abbrev pub invariant-loop-value : goal.invariant-loop-value
invariant-loop-value g l = record {
  ready : g.I.Interner.ready l.i;
  fixed : g.I.Interner.fixed l.i ≡ g.I.Interner.fixed l.initial.i;
  cap : g.I.Interner.cap l.i ≡ g.I.Interner.cap l.initial.i;
  kept : Kept (g.I.Interner.holds l.initial.i) (g.I.Interner.holds l.i);
  built : BuiltBy l.n l.initial.b l.b;
  shows : AllZip (ValueShows (g.I.Interner.holds l.i) (Names l.n.values) (nodes_of l.b)) l.places.items (take l.value-index l.values);
}
