use Rattle.std.proofs.Common.{◌≡◌, ◌++◌, drop}
use Rattle.row_code.specs.Infos.{texts}
use Rattle.pass_targets.specs.Known.{others}
use Rattle.pass_targets.proofs.build.other_names.Given as goal

abbrev pub invariant-each : goal.invariant-each
invariant-each l = l.names ++ others (texts l.illegal) (texts l.dynamic) (texts (drop l.name-index l.all)) ≡ others (texts l.illegal) (texts l.dynamic) (texts l.all)
