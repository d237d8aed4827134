use Rattle.std.proofs.Common.{◌≡◌, map, take}
use Rattle.form_model.specs.Types.{fixed_size}
use Rattle.form_code.proofs.types.sizes_of.Given as goal

abbrev pub invariant-loop-dim : goal.invariant-loop-dim
invariant-loop-dim l = l.sizes ≡ map fixed_size (take l.dim-index l.dims)
