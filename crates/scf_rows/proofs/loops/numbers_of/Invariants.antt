use Rattle.std.proofs.Common.{◌≡◌, map, take}
use Rattle.scf_rows.proofs.loops.numbers_of.Given as goal

abbrev pub invariant-each : goal.invariant-each
invariant-each l = l.numbers ≡ map (λ v. v.0) (take l.value-index l.values)
