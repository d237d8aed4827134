use Rattle.std.proofs.Common.{◌≡◌, drop}
use Rattle.pattern_model.specs.Fold.{width}
use Rattle.pass_fold.proofs.widths.width_of.Given as goal

abbrev pub invariant-each : goal.invariant-each
invariant-each l = width (drop l.stage-index l.stages) ≡ width l.stages
