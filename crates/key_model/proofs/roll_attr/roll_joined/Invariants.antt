use Rattle.std.proofs.Common.{◌≡◌, take}
use Rattle.std.specs.Prelude.{codes}
use Rattle.key_model.specs.Rolled.{rolled}
use Rattle.tree_text.specs.Joined.{led_by}
use Rattle.key_model.proofs.roll_attr.roll_joined.Given as goal

abbrev pub invariant-loop-word : goal.invariant-loop-word
invariant-loop-word l = l.out ≡ rolled l.initial.out (led_by (codes ", ") (take l.word-index l.rest))
