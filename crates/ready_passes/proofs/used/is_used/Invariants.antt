use Rattle.std.proofs.Common.{◌≡◌, drop}
use Rattle.ready_passes.specs.Used.{is_used}
use Rattle.ready_passes.proofs.used.is_used.Given as goal

abbrev pub invariant-each : goal.invariant-each
invariant-each l = is_used l.pass (drop l.stage-index l.stages) ≡ is_used l.pass l.stages
