-- What a table of a function stands for.
use Rattle.std.specs.Prelude.{nat_eq, option_map}
use Rattle.std.specs.HashMap.{get}
use Rattle.std.specs.HashSet.{contains}
use Rattle.text_model.specs.PrintedNames.{Names}
use Rattle.generic_printer.specs.Counters.{Counters}
use Rattle.generic_printer.specs.declared.table.Table.{Table}

-- what the maps and the set have at each number
abbrev pub names_in : Table → Names
names_in t = record {
  name = λ v. option_map (λ n. n.name) (get nat_eq t.values v);
  type_of = λ v. option_map (λ n. n.of.now) (get nat_eq t.values v);
  position = λ l. get nat_eq t.positions l;
  is_target = λ l. contains nat_eq t.targets l;
}

-- with the two counters
abbrev pub counters_in : Table → Counters
counters_in t = record { next_argument = t.next_argument; next_other = t.next_other; names = names_in t }
