use Rattle.std.proofs.Common.{◌≡◌, drop}
use Rattle.std.specs.List.{list_all}
use Rattle.rule_facts.specs.Views.{regions_view}
use Rattle.rule_tests.specs.Tests.{ends_well}
use Rattle.rule_tests.proofs.control.regions_end_well.Given as goal

abbrev pub invariant-loop-region : goal.invariant-loop-region
invariant-loop-region l = list_all (list_all (λ h. ends_well h.last)) (regions_view (drop l.region-index l.regions)) ≡ list_all (list_all (λ h. ends_well h.last)) (regions_view l.regions)
