use Rattle.std.proofs.Common.{◌≡◌, ◌++◌, drop, map}
use Rattle.conversion_model.specs.Chosen.{places}
use Rattle.choice_code.specs.Own.{source_of}
use Rattle.choice_code.proofs.own.all_sources.Given as goal

abbrev pub invariant-each : goal.invariant-each
invariant-each l = l.sources ++ map (source_of l.made) (places l.place (drop l.place l.types)) ≡ map (source_of l.made) (places 0 l.types)
