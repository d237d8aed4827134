use Rattle.std.proofs.Common.{arith}
use Rattle.std.proofs.lemmas.Grind.{common_steps}
use Rattle.undo_rewriter.proofs.LastLaws.{last_set}
use Rattle.undo_rewriter.proofs.last.put_last.Goals as goal

pub returns : goal.returns
returns c = λ before u e. last_set before u c.args.step c.args.journal.now.items c.len-last.result e (grind (arith, common_steps))
