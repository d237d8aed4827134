use Rattle.tool_cli.proofs.OneReply.{one_reply}
use Rattle.tool_cli.proofs.run.law_one_reply.Goals as goal

pub returns : goal.returns
returns c = one_reply
