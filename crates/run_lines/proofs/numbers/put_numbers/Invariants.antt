use Rattle.std.proofs.Common.{◌≡◌, ◌++◌, drop, length}
use Rattle.run_code.specs.Views.{bits_of}
use Rattle.run_lines.specs.Lines.{numbers_text}
use Rattle.run_lines.proofs.numbers.put_numbers.Given as goal

abbrev pub invariant-loop-width : goal.invariant-loop-width
invariant-loop-width l =
    l.out ++ numbers_text l.lead (bits_of (drop (length l.yielded) l.widths)) (drop (length l.yielded) l.numbers)
    ≡ l.initial.out ++ numbers_text l.initial.lead (bits_of l.widths) l.numbers
