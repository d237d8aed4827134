use Rattle.std.proofs.Common.{◌≡◌, ◌++◌, List, drop}
use Rattle.conversion_model.specs.declared.templates.Source.{Source}
use Rattle.pattern_model.specs.Drafts.{Draft}
use Rattle.pattern_model.specs.FuncRows.{fields_at}
use Rattle.row_drafts.specs.Writes.{behind}
use Rattle.func_rows.proofs.calls.array_fields.Given as goal

abbrev pub invariant-each : goal.invariant-each
invariant-each l = (next : List Source → Draft)
    → behind l.initial.writer (fields_at l.bits l.from l.field 0 l.dims next)
    ≡ behind l.writer (fields_at l.bits l.from l.field l.place (drop l.place l.dims) (λ ss. next (l.numbers ++ ss)))
