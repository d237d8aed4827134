use Rattle.tool_cli.proofs.Bytes.{at_ok}
use Rattle.tool_cli.specs.Replies.{no_module}
use Rattle.tool_cli.proofs.run.reply_to_text.Goals as goal

pub returns-in-Err-At : goal.returns-in-Err-At
returns-in-Err-At c words asks =
    let refused = rw c.in-Err-At.field-0-is at c.in-Err-At.ensures.at in
    at_ok _ _ _ (rw (c.in-Err-At.place-is, c.in-Err-At.kind-is) at c.refused.ensures) (no_module _ _ _ asks c.requires refused)
