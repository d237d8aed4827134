use Rattle.std.proofs.Common.{◌≡◌, drop}
use Rattle.plain_tree.specs.Ops.{plain_values}
use Rattle.rule_model.specs.Words.{numbers}
use Rattle.first_places.specs.Tables.{table_in, with_firsts}
use Rattle.own_uses.specs.Flat.{numbered}
use Rattle.own_uses.proofs.graph.note_results.Given as goal

abbrev pub invariant-loop-value : goal.invariant-loop-value
invariant-loop-value l =
    with_firsts (table_in l.makers) (numbered l.number (numbers (plain_values (drop l.value-index l.results))))
    ≡ with_firsts (table_in l.initial.makers) (numbered l.number (numbers (plain_values l.results)))
