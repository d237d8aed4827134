use Rattle.func_rows.proofs.FieldLaws.{inputs_are}
use Rattle.func_rows.proofs.functions.function_inputs.Goals as goal

pub returns-in-Func : goal.returns-in-Func
returns-in-Func c = inputs_are c.args.t.now c.in-Func.inputs c.in-Func.field-1 c.as_slice.result.now c.in-Func.is c.as_slice.ensures
