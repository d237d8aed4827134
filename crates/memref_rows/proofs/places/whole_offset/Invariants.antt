use Rattle.std.proofs.Common.{◌≡◌, drop}
use Rattle.conversion_model.specs.declared.templates.Source.{Source}
use Rattle.pattern_model.specs.Drafts.{Draft}
use Rattle.row_drafts.specs.Writes.{behind}
use Rattle.pattern_model.specs.MemrefRows.{offset_of}
use Rattle.memref_rows.proofs.places.whole_offset.Given as goal

abbrev pub invariant-each : goal.invariant-each
invariant-each l = (next : Source → Draft)
    → behind l.initial.writer (offset_of l.bits l.from l.fn.first 0 l.dims l.fn.start next)
    ≡ behind l.writer (offset_of l.bits l.from l.operand l.place (drop l.place l.dims) l.offset next)
