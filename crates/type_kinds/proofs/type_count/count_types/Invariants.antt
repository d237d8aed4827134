use Rattle.std.proofs.Common.{◌≡◌, ◌+◌, ◌≤◌}
use Rattle.term_table.specs.Terms.{term_at}
use Rattle.type_kinds.specs.Counts.{count_types}
use Rattle.type_kinds.proofs.type_count.count_types.Given as goal

-- those counted, and those of what is left, are those of the list
abbrev pub invariant-each : goal.invariant-each
invariant-each l = record {
  decides : l.count + count_types (term_at l.terms.nodes.keys l.rest) ≡ count_types (term_at l.terms.nodes.keys l.list);
  bound : l.count + l.rest ≤ l.list;
}

abbrev pub decreases-each : goal.decreases-each
decreases-each l = l.rest
