use Rattle.std.proofs.Common.{◌≡◌, drop}
use Rattle.plain_tree.specs.Types.{plain_type}
use Rattle.conversion_model.specs.declared.templates.Source.{Source}
use Rattle.pattern_model.specs.Drafts.{Draft}
use Rattle.pattern_model.specs.FuncRows.{parameters_at}
use Rattle.row_drafts.specs.Writes.{behind}
use Rattle.func_rows.proofs.parts.insert_operands.Given as goal

abbrev pub invariant-each : goal.invariant-each
invariant-each l = (next : Source → Draft)
    → behind l.initial.writer (parameters_at l.field (plain_type l.t) l.fn.first 0 l.dims l.fn.into next)
    ≡ behind l.writer (parameters_at l.field (plain_type l.t) l.operand l.place (drop l.place l.dims) l.made next)
