use Rattle.std.proofs.Common.{drop, map}
use Rattle.std.specs.Prelude.{⊤}
use Rattle.choice_code.specs.Plain.{plain_step}
use Rattle.conversion_model.specs.Templates.{steps_written}
use Rattle.unit_writer.specs.Names.{name_by}
use Rattle.unit_writer.specs.Writes.{behind_line, state_of, table_of}
use Rattle.unit_writer.proofs.Going.{Ahead}
use Rattle.unit_writer.proofs.line.Line.put_all.Given as goal

abbrev pub invariant-loop-step : goal.invariant-loop-step
invariant-loop-step l =
    Ahead table_of behind_line (λ m. ⊤) (λ m x. record { ops = steps_written (name_by l.self.names m.table) l.self.operands.now l.self.labels.now 0 (map plain_step l.steps) x.ops; more = x.more })
    (state_of l.initial.page l.initial.notes) (state_of l.page l.notes)
    (λ m. ⊤) (λ m x. record { ops = steps_written (name_by l.self.names m.table) l.self.operands.now l.self.labels.now l.first (map plain_step (drop l.step-index l.steps)) x.ops; more = x.more })
