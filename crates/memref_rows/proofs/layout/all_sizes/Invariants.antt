use Rattle.std.proofs.Common.{◌≡◌, ◌++◌, List, drop, length}
use Rattle.conversion_model.specs.declared.templates.Source.{Source}
use Rattle.pattern_model.specs.Drafts.{Draft}
use Rattle.row_drafts.specs.Writes.{behind}
use Rattle.pattern_model.specs.MemrefRows.{sizes_of}
use Rattle.memref_rows.proofs.layout.all_sizes.Given as goal

abbrev pub invariant-each : goal.invariant-each
invariant-each l = record {
  part : (next : List Source → Draft)
      → behind l.initial.writer (sizes_of l.bits l.dims 0 next)
      ≡ behind l.writer (sizes_of l.bits (drop l.dim-index l.dims) l.taken (λ ss. next (l.sizes ++ ss)));
  count : length l.sizes ≡ l.dim-index;
}
