use Rattle.std.proofs.Common.{◌≡◌, [], drop}
use Rattle.std.specs.List.{list_all}
use Rattle.rule_model.specs.Parts.{is_block_of}
use Rattle.rule_facts.specs.Views.{regions_view}
use Rattle.operand_tests.proofs.regions.all_bare.Given as goal

abbrev pub invariant-loop-r : goal.invariant-loop-r
invariant-loop-r l = list_all (is_block_of []) (regions_view (drop l.r-index l.regions)) ≡ list_all (is_block_of []) (regions_view l.regions)
