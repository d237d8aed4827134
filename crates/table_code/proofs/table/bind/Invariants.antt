use Rattle.form_model.specs.Codes.{Env}
use Rattle.table_code.specs.Agreement.{Agrees}
use Rattle.table_code.proofs.TableLaws.{Bound}
use Rattle.table_code.proofs.table.bind.Given as goal

abbrev pub invariant-loop-i : goal.invariant-loop-i
invariant-loop-i l = (env : Env) → Agrees l.initial.table env → Bound l.ids l.vs l.i l.table env
