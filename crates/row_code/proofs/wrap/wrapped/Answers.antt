use Rattle.std.proofs.Common.{sym, ◌∙◌, rules, w64}
use Rattle.std.proofs.lemmas.Int.{to_z-of_z}
use Rattle.row_code.proofs.WrapLaws.{wide}
use Rattle.row_code.proofs.wrap.wrapped.Goals as goal

pub returns-else-bits-lt64 : goal.returns-else-bits-lt64
returns-else-bits-lt64 c = to_z-of_z w64 c.args.number (search rules) ∙ sym (wide c.args.bits c.args.number c.if-bits-lt64.false (search rules))
