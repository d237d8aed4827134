use Rattle.std.proofs.Common.{◌≡◌, ◌+◌, drop}
use Rattle.row_drafts.specs.Writes.{behind}
use Rattle.pattern_model.specs.MemrefRows.{size_at}
use Rattle.memref_rows.proofs.sizes.chosen_size.Given as goal

abbrev pub invariant-each : goal.invariant-each
invariant-each l =
    behind l.initial.writer (size_at l.bits 1 l.dims l.initial.size)
    ≡ behind l.writer (size_at l.bits (l.place + 1) (drop l.place l.dims) l.size)
