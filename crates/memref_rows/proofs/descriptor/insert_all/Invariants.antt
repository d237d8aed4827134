use Rattle.std.proofs.Common.{◌≡◌, drop}
use Rattle.conversion_model.specs.declared.templates.Source.{Source}
use Rattle.pattern_model.specs.Drafts.{Draft}
use Rattle.row_drafts.specs.Writes.{behind}
use Rattle.plain_tree.specs.Types.{plain_type}
use Rattle.pattern_model.specs.MemrefRows.{inserted}
use Rattle.memref_rows.proofs.descriptor.insert_all.Given as goal

abbrev pub invariant-each : goal.invariant-each
invariant-each l = (next : Source → Draft)
    → behind l.initial.writer (inserted l.field (plain_type l.t) 0 l.values l.fn.into next)
    ≡ behind l.writer (inserted l.field (plain_type l.t) l.place (drop l.place l.values) l.made next)
