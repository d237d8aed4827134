use Rattle.std.proofs.Common.{◌≡◌, drop}
use Rattle.form_model.specs.Codes.{Env, lookups}
use Rattle.table_code.specs.Agreement.{Agrees, before}
use Rattle.table_code.proofs.lookups.operands.Given as goal

abbrev pub invariant-loop-id : goal.invariant-loop-id
invariant-loop-id l = (env : Env) → Agrees l.table env → before l.all (lookups (drop l.id-index l.ids) env) ≡ lookups l.ids env
