use Rattle.std.proofs.Common.{◌≡◌, reverse}
use Rattle.line_grammar.specs.Machine.{ends}
use Rattle.text_grammar.specs.Table.{generic}
use Rattle.text_grammar.proofs.machine.ends_here.Given as goal

-- what is left decides
abbrev pub invariant-loop-symbol : goal.invariant-loop-symbol
invariant-loop-symbol l =
    (goal.iterator-loop-symbol).can_next l.symbol-iterator × (goal.iterator-loop-symbol).is_finite l.symbol-iterator
    × (ends generic (reverse l.symbol-iterator.iter.rest.now) ≡ ends generic (reverse l.stack))
