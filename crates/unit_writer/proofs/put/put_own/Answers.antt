use Rattle.std.proofs.Common.{◌∙◌}
use Rattle.unit_writer.proofs.Layers.{copy_at}
use Rattle.unit_writer.proofs.put.put_own.Goals as goal

pub returns-clause-other : goal.returns-clause-other
returns-clause-other c = copy_at c.args.op ∙ c.no_copy.ensures
