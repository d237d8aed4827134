use Rattle.std.proofs.Common.{◌≡◌, take}
use Rattle.scf_rows.specs.Trees.{old_values}
use Rattle.scf_rows.proofs.products.old_values.Given as goal

abbrev pub invariant-each : goal.invariant-each
invariant-each l = l.values ≡ old_values (take l.id-index l.ids)
