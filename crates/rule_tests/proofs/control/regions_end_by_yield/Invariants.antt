use Rattle.std.proofs.Common.{◌≡◌, drop}
use Rattle.std.specs.List.{list_all}
use Rattle.rule_model.specs.Control.{is_yield}
use Rattle.rule_facts.specs.Views.{regions_view}
use Rattle.rule_tests.specs.Tests.{each_ends_by}
use Rattle.rule_tests.proofs.control.regions_end_by_yield.Given as goal

abbrev pub invariant-loop-region : goal.invariant-loop-region
invariant-loop-region l = list_all (each_ends_by is_yield) (regions_view (drop l.region-index l.regions)) ≡ list_all (each_ends_by is_yield) (regions_view l.regions)
