use Rattle.std.proofs.Common.{◌≡◌, ◌++◌, reverse}
use Rattle.text_grammar.proofs.machine.want.Given as goal

-- what is left of the list and what was put on the stack is the list and the stack as it was
abbrev pub invariant-loop-symbol : goal.invariant-loop-symbol
invariant-loop-symbol l =
    (goal.iterator-loop-symbol).can_next l.symbol-iterator × (goal.iterator-loop-symbol).is_finite l.symbol-iterator
    × (l.symbol-iterator.iter.rest.now ++ reverse l.stack.items ≡ l.rest ++ reverse l.fn.stack.items)
