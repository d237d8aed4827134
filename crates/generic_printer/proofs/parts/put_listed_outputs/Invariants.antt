use Rattle.std.proofs.Common.{◌≡◌, ◌++◌, take, map}
use Rattle.std.specs.Prelude.{codes, false}
use Rattle.tree_text.specs.Joined.{led_by}
use Rattle.tree_text.specs.TypeText.{text_at, printed}
use Rattle.generic_printer.proofs.parts.put_listed_outputs.Given as goal

abbrev pub invariant-loop-value : goal.invariant-loop-value
invariant-loop-value l = l.out ≡ l.initial.out ++ led_by (codes ", ") (map (text_at false) (map (λ r. printed r.1) (take l.value-index l.rest)))
