use Rattle.std.proofs.Common.{◌≡◌, drop, map}
use Rattle.text_model.specs.PrintedPlaces.{single_at}
use Rattle.generic_printer.specs.Counters.{with_places}
use Rattle.generic_printer.specs.NamesIn.{counters_in}
use Rattle.generic_printer.proofs.table.Table.name_singles.Given as goal

abbrev pub invariant-loop-value : goal.invariant-loop-value
invariant-loop-value l = with_places (counters_in l.self) (map single_at (drop l.value-index l.values)) ≡ with_places (counters_in l.initial.self) (map single_at l.values)
