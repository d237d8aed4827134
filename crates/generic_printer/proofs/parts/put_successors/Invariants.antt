use Rattle.std.proofs.Common.{◌≡◌, ◌++◌, take, map}
use Rattle.std.specs.Prelude.{codes}
use Rattle.tree_text.specs.Joined.{led_by}
use Rattle.text_model.specs.PrintedOps.{found_label}
use Rattle.generic_printer.specs.NamesIn.{names_in}
use Rattle.generic_printer.proofs.parts.put_successors.Given as goal

abbrev pub invariant-loop-label : goal.invariant-loop-label
invariant-loop-label l = l.out ≡ l.initial.out ++ led_by (codes ", ") (map (λ v. found_label ((names_in l.fn.table).position v)) (take l.label-index l.rest))
