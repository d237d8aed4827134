use Rattle.std.proofs.Common.{◌∙◌, sym}
use Rattle.plain_tree.specs.Types.{plain_type}
use Rattle.conversion_model.specs.Types.{converted_type}
use Rattle.func_rows.proofs.FieldLaws.{some_one}
use Rattle.func_rows.proofs.signatures.one_converted.Goals as goal

pub returns : goal.returns
returns c = some_one (converted_type c.args.bits (plain_type c.args.t.now)) c.in-Some.t c.in_ok-list.list (sym c.in-Some.is ∙ c.in_ok-t.ensures) c.in_ok-list.ensures
