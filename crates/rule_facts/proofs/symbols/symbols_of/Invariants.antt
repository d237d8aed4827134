use Rattle.std.proofs.Common.{◌≤◌, drop, length}
use Rattle.rule_facts.specs.Finding.{StandsFrom}
use Rattle.rule_facts.specs.Views.{all_declared}
use Rattle.rule_facts.proofs.symbols.symbols_of.Given as goal

abbrev pub invariant-loop-place : goal.invariant-loop-place
invariant-loop-place l = record {
  within : l.place ≤ length l.functions;
  stands : StandsFrom l.place l.by_name (all_declared (drop l.place l.functions));
}

abbrev pub decreases-loop-place : goal.decreases-loop-place
decreases-loop-place l = l.place
