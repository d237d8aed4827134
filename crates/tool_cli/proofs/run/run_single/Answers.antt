use Rattle.std.proofs.Common.{sym, ap}
use Rattle.tool_cli.specs.Told.{Reply}
use Rattle.tool_cli.proofs.Statuses.{answers_so, no_fault, no_write_fault, none_of}
use Rattle.tool_cli.proofs.run.run_single.Goals as goal

pub returns-in-Ok-deliver-clause-unread : goal.returns-in-Ok-deliver-clause-unread
returns-in-Ok-deliver-clause-unread g c h =
    c.reply_to.ensures.unread (none_of c.args.words.now _ (answers_so _ _ _ _ (sym (ap (λ (r : Reply). r.status) c.reply.view_is)) c.in-Ok.ensures.reply.2) h)

pub returns-in-Ok-deliver-clause-read_fault : goal.returns-in-Ok-deliver-clause-read_fault
returns-in-Ok-deliver-clause-read_fault g c h =
    absurd (no_fault c.args.words.now _ (answers_so _ _ _ _ (sym (ap (λ (r : Reply). r.status) c.reply.view_is)) c.in-Ok.ensures.reply.2) h)

pub returns-in-Ok-deliver-clause-write_fault : goal.returns-in-Ok-deliver-clause-write_fault
returns-in-Ok-deliver-clause-write_fault g c h =
    absurd (no_write_fault c.args.words.now _ (answers_so _ _ _ _ (sym (ap (λ (r : Reply). r.status) c.reply.view_is)) c.in-Ok.ensures.reply.2) h)
