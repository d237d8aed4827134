use Rattle.std.proofs.Common.{◌≡◌, drop}
use Rattle.rule_model.specs.Control.{is_yield}
use Rattle.rule_facts.specs.Views.{heads_view}
use Rattle.rule_tests.specs.Tests.{each_ends_by}
use Rattle.rule_tests.proofs.control.all_end_by_yield.Given as goal

abbrev pub invariant-loop-head : goal.invariant-loop-head
invariant-loop-head l = each_ends_by is_yield (heads_view (drop l.head-index l.heads)) ≡ each_ends_by is_yield (heads_view l.heads)
