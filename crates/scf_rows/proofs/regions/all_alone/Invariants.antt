use Rattle.std.proofs.Common.{◌≡◌, ◌++◌, drop}
use Rattle.std.specs.Prelude.{option_map}
use Rattle.scf_rows.specs.Trees.{all_alone}
use Rattle.scf_rows.proofs.regions.all_alone.Given as goal

abbrev pub invariant-each : goal.invariant-each
invariant-each l = option_map (λ rest. l.all ++ rest) (all_alone (drop l.region-index l.regions)) ≡ all_alone l.regions
