use Rattle.std.proofs.Common.{◌≡◌, drop}
use Rattle.pattern_model.specs.Fold.{uses_width}
use Rattle.pass_fold.proofs.widths.width_of_uses.Given as goal

abbrev pub invariant-each : goal.invariant-each
invariant-each l = uses_width (drop l.used-index l.uses) ≡ uses_width l.uses
