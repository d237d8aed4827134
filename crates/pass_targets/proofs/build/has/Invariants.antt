use Rattle.std.proofs.Common.{◌≡◌, drop}
use Rattle.pattern_model.specs.OperationNames.{is_among}
use Rattle.row_code.specs.Infos.{texts}
use Rattle.pass_targets.proofs.build.has.Given as goal

abbrev pub invariant-each : goal.invariant-each
invariant-each l = is_among (texts (drop l.other-index l.names)) l.name ≡ is_among (texts l.names) l.name
