use Rattle.std.proofs.Common.{◌≡◌, ◌≤◌, ℕ, drop, length, nat_eq}
use Rattle.std.specs.HashMap.{get}
use Rattle.plain_tree.specs.Ops.{plain_values}
use Rattle.conversion_model.specs.Templates.{numbers}
use Rattle.unit_writer.specs.Names.{kept_as}
use Rattle.unit_writer.proofs.names.kept_values.Given as goal

abbrev pub invariant-each : goal.invariant-each
invariant-each l =
    (l.index ≤ length l.results)
    × (l.index ≤ length l.sources)
    × ((n : ℕ) → get nat_eq l.kept n ≡ kept_as (numbers (plain_values (drop l.index l.results))) (drop l.index l.sources) n)

abbrev pub decreases-each : goal.decreases-each
decreases-each l = l.index
