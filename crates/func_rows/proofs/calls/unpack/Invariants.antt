use Rattle.std.proofs.Common.{◌≡◌, ◌++◌, List, drop, map}
use Rattle.plain_tree.specs.Types.{plain_type}
use Rattle.conversion_model.specs.declared.templates.Source.{Source}
use Rattle.pattern_model.specs.Drafts.{Draft}
use Rattle.pattern_model.specs.FuncRows.{unpacked}
use Rattle.row_drafts.specs.Writes.{behind}
use Rattle.func_rows.proofs.calls.unpack.Given as goal

abbrev pub invariant-each : goal.invariant-each
invariant-each l = (next : List Source → Draft)
    → behind l.initial.writer (unpacked l.from 0 (map plain_type l.types) next)
    ≡ behind l.writer (unpacked l.from l.place (map plain_type (drop l.place l.types)) (λ ss. next (l.fields ++ ss)))
