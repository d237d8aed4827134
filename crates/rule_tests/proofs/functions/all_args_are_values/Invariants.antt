use Rattle.std.proofs.Common.{◌≡◌, drop}
use Rattle.std.specs.List.{list_all}
use Rattle.plain_tree.specs.ValueTypes.{is_value}
use Rattle.rule_facts.specs.Views.{regions_view}
use Rattle.rule_tests.proofs.functions.all_args_are_values.Given as goal

abbrev pub invariant-loop-region : goal.invariant-loop-region
invariant-loop-region l = list_all (list_all (λ h. list_all is_value h.args)) (regions_view (drop l.region-index l.regions)) ≡ list_all (list_all (λ h. list_all is_value h.args)) (regions_view l.regions)
