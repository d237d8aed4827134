use Rattle.std.proofs.Common.{◌≡◌, ◌++◌, map, drop}
use Rattle.form_model.specs.Types.{fixed_size}
use Rattle.form_model.specs.Classes.{either_sizes}
use Rattle.form_code.proofs.memory.either_sizes.Given as goal

abbrev pub invariant-loop-i : goal.invariant-loop-i
invariant-loop-i l =
    l.sizes ++ either_sizes (map fixed_size (drop l.i l.a)) (map fixed_size (drop l.i l.b)) ≡ either_sizes (map fixed_size l.a) (map fixed_size l.b)
