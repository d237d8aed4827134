use Rattle.std.proofs.Common.{◌≡◌, take}
use Rattle.std.specs.Prelude.{flat_map}
use Rattle.key_model.specs.Rolled.{rolled}
use Rattle.tree_text.specs.TypeText.{dim_text}
use Rattle.key_model.proofs.roll_type.roll_dims.Given as goal

abbrev pub invariant-loop-dim : goal.invariant-loop-dim
invariant-loop-dim l = l.out ≡ rolled l.initial.out (flat_map dim_text (take l.dim-index l.dims))
