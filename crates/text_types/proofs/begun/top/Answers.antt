use Rattle.std.proofs.Common.{rules}
use Rattle.text_types.proofs.BegunLaws.{top_none}
use Rattle.text_types.proofs.begun.top.Goals as goal

pub returns-in-None-clause-is : goal.returns-in-None-clause-is
returns-in-None-clause-is c = top_none c.args.stack.now (search rules)
