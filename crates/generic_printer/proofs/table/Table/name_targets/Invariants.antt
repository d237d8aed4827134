use Rattle.std.proofs.Common.{◌≡◌, drop, map}
use Rattle.text_model.specs.PrintedPlaces.{successor_at}
use Rattle.generic_printer.specs.Counters.{with_places}
use Rattle.generic_printer.specs.NamesIn.{counters_in}
use Rattle.generic_printer.proofs.table.Table.name_targets.Given as goal

abbrev pub invariant-loop-label : goal.invariant-loop-label
invariant-loop-label l = with_places (counters_in l.self) (map successor_at (drop l.label-index l.labels)) ≡ with_places (counters_in l.initial.self) (map successor_at l.labels)
