use Rattle.std.proofs.Common.{◌≡◌, drop, map}
use Rattle.plain_tree.specs.Types.{plain_type}
use Rattle.conversion_model.specs.declared.templates.Source.{Source}
use Rattle.pattern_model.specs.Drafts.{Draft}
use Rattle.pattern_model.specs.FuncRows.{packed_in}
use Rattle.row_drafts.specs.Writes.{behind}
use Rattle.func_rows.proofs.returns.pack.Given as goal

abbrev pub invariant-each : goal.invariant-each
invariant-each l = (next : Source → Draft)
    → behind l.initial.writer (packed_in (plain_type l.t) 0 (map plain_type l.types) l.fn.into next)
    ≡ behind l.writer (packed_in (plain_type l.t) l.place (map plain_type (drop l.place l.types)) l.made next)
