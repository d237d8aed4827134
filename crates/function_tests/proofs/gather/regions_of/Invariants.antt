use Rattle.std.proofs.Common.{◌≡◌, map, take}
use Rattle.rule_facts.specs.Views.{regions_view}
use Rattle.function_tests.specs.Heads.{heads_at}
use Rattle.function_tests.proofs.gather.regions_of.Given as goal

abbrev pub invariant-loop-region : goal.invariant-loop-region
invariant-loop-region l = regions_view l.all.items ≡ map heads_at (take l.region-index l.regions)
