use Rattle.cf_rows.proofs.BranchLaws.{operand_more}
use Rattle.cf_rows.proofs.branch.all_operands.Goals as goal

pub each-preserved : goal.each-preserved
each-preserved c = operand_more c.args.types.now c.each.place c.each.sources c.push_operand.new.sources c.each-test.true c.in_ok-push_operand.ensures c.each.invariant
