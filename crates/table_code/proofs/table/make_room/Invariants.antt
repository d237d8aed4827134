use Rattle.std.proofs.Common.{◌+◌, ◌-◌, length}
use Rattle.form_model.specs.Codes.{Env}
use Rattle.table_code.specs.Agreement.{Agrees}
use Rattle.table_code.proofs.table.make_room.Given as goal

abbrev pub decreases-loop-table : goal.decreases-loop-table
decreases-loop-table l = l.n + 1 - length l.table

abbrev pub invariant-loop-table : goal.invariant-loop-table
invariant-loop-table l = (env : Env) → Agrees l.initial.table env → Agrees l.table env
