use Rattle.std.proofs.Common.{◌≡◌, ◌++◌, take}
use Rattle.std.specs.Prelude.{codes}
use Rattle.tree_text.specs.Joined.{led_by}
use Rattle.tree_text.specs.Grew.{Grew}
use Rattle.tree_text.proofs.print_attr.add_joined.Given as goal

abbrev pub invariant-loop-word : goal.invariant-loop-word
invariant-loop-word l = record { text : l.out ≡ l.initial.out ++ led_by (codes ", ") (take l.word-index l.rest); grew : Grew l.initial.out l.out }
