use Rattle.std.proofs.Common.{◌≡◌, ◌++◌, drop}
use Rattle.operation_model.specs.Straight as model
use Rattle.value_code.specs.Models.{values_of}
use Rattle.layout_code.specs.Sizes.{sizes_of}
use Rattle.layout_code.proofs.sizes.size_values.Given as goal

abbrev pub invariant-loop-s : goal.invariant-loop-s
invariant-loop-s l = values_of l.all ++ model.size_values (sizes_of (drop l.s-index l.sizes)) ≡ model.size_values (sizes_of l.sizes)
