use Rattle.std.proofs.Common.{rules}
use Rattle.run_report.specs.Views.{request_of}
use Rattle.run_report.proofs.TextLaws.{structured_shown}
use Rattle.run_report.proofs.reports.structured_text.Goals as goal

pub returns : goal.returns
returns c =
    structured_shown c.args.lead.now c.in_ok-text_of.field-0 c.args.tree.now (request_of c.args.run) c.in_ok-outcome.outcome _ _ _ (search rules) (search rules) (search rules) c.in_ok-outcome.ensures.meaning c.in_ok-text_of.ensures
