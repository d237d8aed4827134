use Rattle.std.proofs.Common.{◌∙◌, map, sym, ap}
use Rattle.plain_tree.specs.Types.{plain_type}
use Rattle.func_rows.specs.Fields.{plain_list}
use Rattle.func_rows.proofs.FieldLaws.{no_outputs, no_params, signature_made}
use Rattle.func_rows.proofs.signatures.signature_of.Goals as goal

pub returns-in_default : goal.returns-in_default
returns-in_default c = no_params c.args.bits (map plain_type c.args.inputs.now) (map plain_type c.args.outputs.now) (sym (ap plain_list c.in_default.is) ∙ c.in_ok-params.ensures)

pub returns-in_default-2 : goal.returns-in_default-2
returns-in_default-2 c = no_outputs c.args.bits (map plain_type c.args.inputs.now) (map plain_type c.args.outputs.now) (map plain_type c.in-Some.params) (sym (ap plain_list c.in-Some.is) ∙ c.in_ok-params.ensures) (sym (ap plain_list c.in_default-2.is) ∙ c.in_ok-outputs.ensures)

pub returns : goal.returns
returns c =
    signature_made c.args.bits (map plain_type c.args.inputs.now) (map plain_type c.args.outputs.now) c.in-Some.params c.in-Some-2.outputs c.in_ok-output-2.output (sym (ap plain_list c.in-Some.is) ∙ c.in_ok-params.ensures) (sym (ap plain_list c.in-Some-2.is) ∙ c.in_ok-outputs.ensures)
    (ap plain_type c.in_ok-output-2.ensures ∙ c.in_ok-output.ensures)
