use Rattle.std.proofs.Common.{drop}
use Rattle.std.specs.Prelude.{⊤}
use Rattle.plain_tree.specs.Ops.{plain_values}
use Rattle.conversion_model.specs.Templates.{copies}
use Rattle.unit_writer.specs.Names.{name_by}
use Rattle.unit_writer.specs.Writes.{behind_line, state_of, table_of}
use Rattle.unit_writer.proofs.Going.{Ahead}
use Rattle.unit_writer.proofs.line.Line.stand_all.Given as goal

abbrev pub invariant-loop-index : goal.invariant-loop-index
invariant-loop-index l =
    Ahead table_of behind_line (λ m. ⊤) (λ m x. record { ops = copies (name_by l.self.names m.table) l.self.operands.now (plain_values l.results) l.sources x.ops; more = x.more })
    (state_of l.page l.initial.notes) (state_of l.page l.notes)
    (λ m. ⊤) (λ m x. record { ops = copies (name_by l.self.names m.table) l.self.operands.now (plain_values (drop l.index l.results)) (drop l.index l.sources) x.ops; more = x.more })
