use Rattle.std.proofs.Common.{◌≡◌, List, ◌∷◌, [], length, reverse}
use Rattle.conversion_model.specs.declared.templates.Source.{Source}
use Rattle.pattern_model.specs.Drafts.{Draft}
use Rattle.row_drafts.specs.Writes.{behind}
use Rattle.memref_rows.specs.Parts.{strides_on}
use Rattle.memref_rows.proofs.layout.strides_behind.Given as goal

abbrev pub decreases-each : goal.decreases-each
decreases-each l = length l.left

abbrev pub invariant-each : goal.invariant-each
invariant-each l = (next : List Source → Draft)
    → behind l.initial.writer (strides_on l.bits (reverse l.sizes) l.fn.last (l.fn.last ∷ []) next)
    ≡ behind l.writer (strides_on l.bits (reverse l.left) l.stride (reverse l.strides.items) next)
