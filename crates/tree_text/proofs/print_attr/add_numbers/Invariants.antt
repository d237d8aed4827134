use Rattle.std.proofs.Common.{◌≡◌, ◌++◌, take, map}
use Rattle.std.specs.Prelude.{codes}
use Rattle.std.specs.Fmt.{signed_decimal}
use Rattle.tree_text.specs.Joined.{led_by}
use Rattle.tree_text.specs.Grew.{Grew}
use Rattle.tree_text.proofs.print_attr.add_numbers.Given as goal

abbrev pub invariant-loop-n : goal.invariant-loop-n
invariant-loop-n l = record { text : l.out ≡ l.initial.out ++ led_by (codes ", ") (map signed_decimal (take l.n-index l.rest)); grew : Grew l.initial.out l.out }
