use Rattle.std.proofs.Common.{◌≡◌, ◌++◌, map, take}
use Rattle.conversion_model.specs.Chosen.{moved_step}
use Rattle.choice_code.specs.Plain.{plain_step}
use Rattle.choice_code.proofs.moves.move_steps.Given as goal

abbrev pub invariant-each : goal.invariant-each
invariant-each l = map plain_step l.out ≡ map plain_step l.initial.out ++ map (moved_step l.operands l.base l.successors) (map plain_step (take l.step-index l.steps))
