use Rattle.std.proofs.Common.{◌≡◌, ◌++◌, take, map}
use Rattle.std.specs.Prelude.{codes, false}
use Rattle.tree_text.specs.Joined.{led_by}
use Rattle.tree_text.specs.TypeText.{text_at}
use Rattle.text_model.specs.PrintedOps.{found_type}
use Rattle.generic_printer.specs.NamesIn.{names_in}
use Rattle.generic_printer.proofs.parts.put_inputs.Given as goal

abbrev pub invariant-loop-value : goal.invariant-loop-value
invariant-loop-value l = l.out ≡ l.initial.out ++ led_by (codes ", ") (map (text_at false) (map (λ v. found_type ((names_in l.fn.table).type_of v)) (take l.value-index l.rest)))
