use Rattle.std.proofs.Common.{◌≡◌, ◌+◌, drop, map}
use Rattle.conversion_model.specs.Chosen.{made_by}
use Rattle.choice_code.specs.Plain.{plain_step}
use Rattle.choice_code.proofs.moves.made_by.Given as goal

abbrev pub invariant-each : goal.invariant-each
invariant-each l = l.count + made_by (map plain_step (drop l.step-index l.steps)) ≡ made_by (map plain_step l.steps)
