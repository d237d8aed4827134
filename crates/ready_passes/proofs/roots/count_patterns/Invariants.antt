use Rattle.std.proofs.Common.{◌≡◌, ◌+◌, drop}
use Rattle.pattern_model.specs.PassTable.{root_count}
use Rattle.pass_rows.specs.Parts.{patterns_at}
use Rattle.ready_passes.proofs.roots.count_patterns.Given as goal

abbrev pub invariant-each : goal.invariant-each
invariant-each l = l.count + root_count l.name (patterns_at (drop l.part-index l.parts)) ≡ root_count l.name (patterns_at l.parts)
