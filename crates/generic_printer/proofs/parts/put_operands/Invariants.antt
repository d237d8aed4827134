use Rattle.std.proofs.Common.{◌≡◌, ◌++◌, take, map}
use Rattle.std.specs.Prelude.{codes}
use Rattle.tree_text.specs.Joined.{led_by}
use Rattle.text_model.specs.PrintedOps.{found_name}
use Rattle.generic_printer.specs.NamesIn.{names_in}
use Rattle.generic_printer.proofs.parts.put_operands.Given as goal

abbrev pub invariant-loop-value : goal.invariant-loop-value
invariant-loop-value l = l.out ≡ l.initial.out ++ led_by (codes ", ") (map (λ v. found_name ((names_in l.fn.table).name v)) (take l.value-index l.rest))
