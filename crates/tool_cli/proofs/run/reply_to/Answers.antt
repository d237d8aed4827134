use Rattle.tool_cli.proofs.Bytes.{some_input}
use Rattle.tool_cli.proofs.Statuses.{only_usage}
use Rattle.tool_cli.specs.Replies.{long_input}
use Rattle.tool_cli.proofs.run.reply_to.Goals as goal

pub returns-in-Err-clause-reply : goal.returns-in-Err-clause-reply
returns-in-Err-clause-reply g c =
    let some = some_input (g.S.Source.left c.args.input.now) in
    let refused = rw c.in-Err.is at c.in_ok-request.ensures.refused in
    (some.0, some.1, refused some.0)

pub returns-in-Err-clause-ended : goal.returns-in-Err-clause-ended
returns-in-Err-clause-ended g c h =
    let usage = rw c.in-Err.is at c.in_ok-request.ensures.usage in
    absurd (only_usage c.in-Err.reply.status usage h)

pub returns-in-None-clause-reply : goal.returns-in-None-clause-reply
returns-in-None-clause-reply g c =
    let long = rw c.in-None.is at c.in_ok-read_input.ensures.long in
    let asks = rw c.in-Ok.is at c.in_ok-request.ensures.asked in
    (long.0, long.1, rw c.in_ok-refuse-in-None.ensures (long_input c.in-Ok.request asks long.2))
