use Rattle.std.proofs.Common.{◌≡◌, drop}
use Rattle.generic_printer.specs.Counters.{with_parts}
use Rattle.generic_printer.specs.NamesIn.{names_in}
use Rattle.generic_printer.proofs.table.Table.name_group.Given as goal

abbrev pub invariant-loop-value : goal.invariant-loop-value
invariant-loop-value l = record {
  names : with_parts (names_in l.self) l.self.next_other l.k (drop l.value-index l.values) ≡ with_parts (names_in l.initial.self) l.initial.self.next_other 0 l.values;
  first : l.self.next_argument ≡ l.initial.self.next_argument;
  second : l.self.next_other ≡ l.initial.self.next_other;
}
