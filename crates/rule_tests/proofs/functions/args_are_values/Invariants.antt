use Rattle.std.proofs.Common.{◌≡◌, drop}
use Rattle.std.specs.List.{list_all}
use Rattle.plain_tree.specs.ValueTypes.{is_value}
use Rattle.rule_facts.specs.Views.{heads_view}
use Rattle.rule_tests.proofs.functions.args_are_values.Given as goal

abbrev pub invariant-loop-head : goal.invariant-loop-head
invariant-loop-head l = list_all (λ h. list_all is_value h.args) (heads_view (drop l.head-index l.heads)) ≡ list_all (λ h. list_all is_value h.args) (heads_view l.heads)
