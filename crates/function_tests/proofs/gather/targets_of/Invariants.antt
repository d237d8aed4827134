use Rattle.std.proofs.Common.{◌≡◌, map, take}
use Rattle.plain_tree.specs.Ops.{blocks_in}
use Rattle.rule_model.specs.Facts.{target}
use Rattle.value_types.specs.Trees.{plain_block}
use Rattle.rule_facts.specs.Views.{targets_view}
use Rattle.function_tests.proofs.gather.targets_of.Given as goal

abbrev pub invariant-loop-label : goal.invariant-loop-label
invariant-loop-label l = targets_view l.targets.items ≡ map (target (blocks_in (map plain_block l.blocks))) (take l.label-index l.labels)
