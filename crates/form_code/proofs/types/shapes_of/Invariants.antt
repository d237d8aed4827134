use Rattle.std.proofs.Common.{◌≡◌, map, take}
use Rattle.form_model.specs.Types.{shape_of}
use Rattle.form_code.proofs.types.shapes_of.Given as goal

abbrev pub invariant-loop-t : goal.invariant-loop-t
invariant-loop-t l = l.shapes ≡ map shape_of (take l.t-index l.types)
