use Rattle.std.proofs.Common.{◌≡◌, map, take}
use Rattle.value_code.specs.Models.{values_of}
use Rattle.form_model.specs.Types.{unset_of}
use Rattle.form_code.proofs.types.+unset_of.Given as goal

abbrev pub invariant-all_unset-loop-t : goal.invariant-all_unset-loop-t
invariant-all_unset-loop-t l = values_of l.parts ≡ map unset_of (take l.t-index l.types)
