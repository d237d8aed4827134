use Rattle.std.proofs.Common.{◌≡◌, length, reverse}
use Rattle.line_grammar.specs.Machine.{next}
use Rattle.text_grammar.specs.Table.{generic}
use Rattle.text_grammar.proofs.machine.take.Given as goal

-- what is left of the stack decides
abbrev pub invariant-loop-symbol : goal.invariant-loop-symbol
invariant-loop-symbol l = next generic (reverse l.stack.items) l.kind ≡ next generic (reverse l.fn.stack.items) l.kind

abbrev pub decreases-loop-symbol : goal.decreases-loop-symbol
decreases-loop-symbol l = length l.stack.items
