use Rattle.tool_cli.proofs.Bytes.{at_ok}
use Rattle.tool_cli.proofs.Verdicts.{keeps_rules}
use Rattle.tool_cli.specs.Replies.{unverified}
use Rattle.tool_cli.proofs.run.reply_to_module.Goals as goal

pub returns-in-Some : goal.returns-in-Some
returns-in-Some c words asks =
    let fails = rw c.in-Some.is at c.in_ok-rule.ensures in
    at_ok _ _ _ c.broken.ensures (unverified _ c.args.source c.in-Some.rule asks c.requires.short c.requires.read fails.1)

pub reply_to_verified-requires-clause-keeps : goal.reply_to_verified-requires-clause-keeps
reply_to_verified-requires-clause-keeps c = keeps_rules _ _ c.args.source c.requires.read (rw c.in-None.is at c.in_ok-rule.ensures)
