use Rattle.std.proofs.Common.{◌≡◌, drop}
use Rattle.ready_passes.specs.Used.{uses_pass}
use Rattle.ready_passes.proofs.used.has_pass.Given as goal

abbrev pub invariant-each : goal.invariant-each
invariant-each l = uses_pass l.pass (drop l.used-index l.uses) ≡ uses_pass l.pass l.uses
