use Rattle.std.proofs.Common.{◌≡◌, ◌++◌, drop}
use Rattle.ready_passes.specs.Used.{names_in, used_of}
use Rattle.ready_passes.proofs.used.ReadyPasses.of.Given as goal

abbrev pub invariant-each : goal.invariant-each
invariant-each l = names_in l.passes.items ++ used_of l.stages (drop l.pass-index l.all) ≡ used_of l.stages l.all
