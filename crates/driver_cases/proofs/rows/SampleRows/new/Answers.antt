use Rattle.std.proofs.Common.{◌∙◌}
use Rattle.driver_cases.proofs.TableLaws.{infos_are}
use Rattle.driver_cases.proofs.rows.SampleRows.new.Goals as goal

pub invariant_of-result : goal.invariant_of-result
invariant_of-result c = record { all = c.in_ok-infos.ensures ∙ infos_are c.args.entries.now }
