use Rattle.std.proofs.Common.{◌≡◌, ◌++◌, take, map}
use Rattle.std.specs.Prelude.{codes}
use Rattle.tree_text.specs.Joined.{led_by}
use Rattle.text_model.specs.PrintedOps.{argument_text}
use Rattle.generic_printer.specs.NamesIn.{names_in}
use Rattle.generic_printer.proofs.parts.put_arguments.Given as goal

abbrev pub invariant-loop-value : goal.invariant-loop-value
invariant-loop-value l = l.out ≡ l.initial.out ++ led_by (codes ", ") (map (argument_text (names_in l.fn.table)) (take l.value-index l.rest))
