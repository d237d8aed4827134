use Rattle.std.proofs.Common.{arith, ◌-◌}
use Rattle.module_trees.proofs.StepLaws.{within_at}
use Rattle.module_trees.proofs.waiting.result_counts.Goals as goal

pub wait-requires : goal.wait-requires
wait-requires c = within_at _ c.args.numbers.now (c.each.index - 1) c.requires.within (omega arith)
