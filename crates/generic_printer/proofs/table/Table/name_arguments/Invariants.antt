use Rattle.std.proofs.Common.{◌≡◌, drop, map}
use Rattle.text_model.specs.PrintedPlaces.{argument_at}
use Rattle.generic_printer.specs.Counters.{with_places}
use Rattle.generic_printer.specs.NamesIn.{counters_in}
use Rattle.generic_printer.proofs.table.Table.name_arguments.Given as goal

abbrev pub invariant-loop-value : goal.invariant-loop-value
invariant-loop-value l = with_places (counters_in l.self) (map argument_at (drop l.value-index l.values)) ≡ with_places (counters_in l.initial.self) (map argument_at l.values)
