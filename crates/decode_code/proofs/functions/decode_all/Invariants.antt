use Rattle.std.proofs.Common.{◌≡◌, ◌++◌, drop}
use Rattle.run_code.specs.Views.{functions_of}
use Rattle.form_model.specs.Decoding.{functions_from}
use Rattle.decode_code.proofs.functions.decode_all.Given as goal

abbrev pub invariant-loop-func : goal.invariant-loop-func
invariant-loop-func l = functions_of l.functions ++ functions_from l.bits.bits (drop l.func-index l.funcs) ≡ functions_from l.bits.bits l.funcs
