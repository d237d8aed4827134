use Rattle.std.proofs.Common.{◌≡◌, take, map}
use Rattle.std.specs.Prelude.{codes}
use Rattle.key_model.specs.Rolled.{rolled}
use Rattle.tree_text.specs.Joined.{led_by}
use Rattle.tree_text.specs.TypeText.{text_at, printed}
use Rattle.key_model.proofs.roll_type.+roll_type.Given as goal

abbrev pub invariant-roll_types-loop-t : goal.invariant-roll_types-loop-t
invariant-roll_types-loop-t l = l.out ≡ rolled l.initial.out (led_by (codes ", ") (map (text_at l.inside) (map printed (take l.t-index l.rest))))
