use Rattle.std.proofs.Common.{◌≡◌, drop}
use Rattle.std.specs.List.{list_all}
use Rattle.rule_facts.specs.Views.{heads_view}
use Rattle.rule_tests.specs.Tests.{ends_well}
use Rattle.rule_tests.proofs.control.all_end_well.Given as goal

abbrev pub invariant-loop-head : goal.invariant-loop-head
invariant-loop-head l = list_all (λ h. ends_well h.last) (heads_view (drop l.head-index l.heads)) ≡ list_all (λ h. ends_well h.last) (heads_view l.heads)
