use Rattle.std.proofs.Common.{◌≡◌, ◌++◌, take}
use Rattle.std.specs.Prelude.{flat_map}
use Rattle.text_model.specs.Printed.{func_text}
use Rattle.generic_printer.proofs.printing.put_funcs.Given as goal

abbrev pub invariant-loop-f : goal.invariant-loop-f
invariant-loop-f l = l.out ≡ l.initial.out ++ flat_map func_text (take l.f-index l.funcs)
