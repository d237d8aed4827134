use Rattle.std.proofs.Common.{sym, ◌∙◌}
use Rattle.use_kinds.proofs.SameLaws.{fault_same, fault_other}
use Rattle.use_kinds.proofs.clashes.fault_of.Goals as goal

pub returns-then-same : goal.returns-then-same
returns-then-same c = fault_same c.args.count c.args.index _ _ _ (sym c.lacks.ensures ∙ c.if-lacks.false) c.same.ensures c.if-same.true

pub returns-else-same : goal.returns-else-same
returns-else-same c = fault_other c.args.count c.args.index _ _ _ (sym c.lacks.ensures ∙ c.if-lacks.false) c.same.ensures c.if-same.false
