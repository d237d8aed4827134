use Rattle.std.proofs.Common.{◌≡◌, ◌≤◌, length, drop, map, reverse}
use Rattle.term_table.specs.Terms.{term_at}
use Rattle.event_trees.specs.Numbers.{waiting, result_counts}
use Rattle.module_trees.proofs.waiting.result_counts.Given as goal

-- the counts from here on, and those that wait
abbrev pub invariant-each : goal.invariant-each
invariant-each l = record {
  bound : l.index ≤ length l.events;
  waiting : reverse l.waiting.items ≡ waiting (drop l.index l.events) (map (term_at l.terms.nodes.keys) (drop l.index l.numbers));
  counts : reverse l.counts.items ≡ result_counts (drop l.index l.events) (map (term_at l.terms.nodes.keys) (drop l.index l.numbers));
}

abbrev pub decreases-each : goal.decreases-each
decreases-each l = l.index
