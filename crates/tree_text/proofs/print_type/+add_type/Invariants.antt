use Rattle.std.proofs.Common.{◌≡◌, ◌++◌, take, map}
use Rattle.std.specs.Prelude.{codes}
use Rattle.tree_text.specs.Joined.{led_by}
use Rattle.tree_text.specs.TypeText.{text_at, printed}
use Rattle.tree_text.specs.Grew.{Grew}
use Rattle.tree_text.proofs.print_type.+add_type.Given as goal

abbrev pub invariant-add_types-loop-t : goal.invariant-add_types-loop-t
invariant-add_types-loop-t l = record { text : l.out ≡ l.initial.out ++ led_by (codes ", ") (map (text_at l.inside) (map printed (take l.t-index l.rest))); grew : Grew l.initial.out l.out }
