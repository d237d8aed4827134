use Rattle.std.proofs.Common.{◌≡◌, take, map}
use Rattle.std.specs.Prelude.{codes}
use Rattle.key_model.specs.Rolled.{rolled}
use Rattle.std.specs.Fmt.{signed_decimal}
use Rattle.tree_text.specs.Joined.{led_by}
use Rattle.key_model.proofs.roll_attr.roll_numbers.Given as goal

abbrev pub invariant-loop-n : goal.invariant-loop-n
invariant-loop-n l = l.out ≡ rolled l.initial.out (led_by (codes ", ") (map signed_decimal (take l.n-index l.rest)))
