use Rattle.std.proofs.Common.{◌∙◌, sym}
use Rattle.plain_tree.specs.Types.{plain_type}
use Rattle.conversion_model.specs.Types.{converted_type}
use Rattle.func_rows.proofs.FieldLaws.{rows_same, second_missing}
use Rattle.func_rows.proofs.casts.same_converted.Goals as goal

pub returns-in_default-2 : goal.returns-in_default-2
returns-in_default-2 c = second_missing (converted_type c.args.bits (plain_type c.args.t.now)) (converted_type c.args.bits (plain_type c.args.u.now)) (sym c.in_default-2.is ∙ c.in_ok-u.ensures)

pub returns : goal.returns
returns c = rows_same (converted_type c.args.bits (plain_type c.args.t.now)) (converted_type c.args.bits (plain_type c.args.u.now)) c.in-Some.t c.in-Some-2.u c.have_same.result (sym c.in-Some.is ∙ c.in_ok-t.ensures) (sym c.in-Some-2.is ∙ c.in_ok-u.ensures) c.have_same.ensures
