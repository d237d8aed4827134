use Rattle.std.proofs.Common.{sym, ◌∙◌}
use Rattle.tool_cli.specs.Replies.{no_words}
use Rattle.tool_cli.proofs.run.asked_of.Goals as goal

pub returns-in_ok-refuse_line-in-Refused-clause-refused : goal.returns-in_ok-refuse_line-in-Refused-clause-refused
returns-in_ok-refuse_line-in-Refused-clause-refused c bytes =
    rw c.in_ok-refuse_line-in-Refused.ensures (no_words c.in-Refused.text (sym c.in_ok-request.ensures ∙ c.in-Refused.is))
