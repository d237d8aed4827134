use Rattle.one_report.proofs.Reports.{one_report}
use Rattle.one_report.proofs.laws.law_one_report.Goals as goal

pub returns : goal.returns
returns c = one_report
