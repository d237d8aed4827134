use Rattle.std.proofs.Common.{◌≡◌, take}
use Rattle.rule_facts.specs.Views.{heads_view}
use Rattle.function_tests.specs.Heads.{heads_in}
use Rattle.function_tests.proofs.gather.heads_of.Given as goal

abbrev pub invariant-loop-block : goal.invariant-loop-block
invariant-loop-block l = heads_view l.heads.items ≡ heads_in (take l.block-index l.blocks)
