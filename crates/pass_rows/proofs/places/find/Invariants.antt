use Rattle.std.proofs.Common.{◌≡◌, drop}
use Rattle.std.specs.Prelude.{slice_get}
use Rattle.pass_rows.specs.Parts.{patterns_at}
use Rattle.pass_rows.proofs.places.find.Given as goal

abbrev pub invariant-each : goal.invariant-each
invariant-each l = slice_get (patterns_at (drop l.part-index l.parts)) l.left ≡ slice_get (patterns_at l.parts) l.at
