use Rattle.std.proofs.Common.{arith}
use Rattle.std.proofs.lemmas.Grind.{common_steps}
use Rattle.type_table.proofs.Opens.{changed_plain}
use Rattle.type_table.proofs.table.becomes.Goals as goal

pub returns-in-Some-clause-plain : goal.returns-in-Some-clause-plain
returns-in-Some-clause-plain c = changed_plain c.args.bits c.args.t.now c.in-Some.changed (grind (arith, common_steps))
