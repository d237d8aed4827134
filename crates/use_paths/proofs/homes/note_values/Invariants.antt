use Rattle.std.proofs.Common.{◌≡◌, drop}
use Rattle.plain_tree.specs.Ops.{plain_values}
use Rattle.rule_model.specs.Words.{numbers}
use Rattle.use_paths.specs.Blocks.{all_at}
use Rattle.first_places.specs.Tables.{table_in, with_firsts}
use Rattle.use_paths.proofs.homes.note_values.Given as goal

abbrev pub invariant-loop-value : goal.invariant-loop-value
invariant-loop-value l =
    with_firsts (table_in l.homes) (all_at l.home (numbers (plain_values (drop l.value-index l.values))))
    ≡ with_firsts (table_in l.initial.homes) (all_at l.home (numbers (plain_values l.values)))
