use Rattle.std.proofs.Common.{◌≡◌, take}
use Rattle.row_code.specs.Infos.{texts}
use Rattle.pass_targets.proofs.build.names_of.Given as goal

abbrev pub invariant-each : goal.invariant-each
invariant-each l = l.names ≡ texts (take l.text-index l.all)
