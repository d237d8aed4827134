use Rattle.std.proofs.Common.{◌≡◌, map, drop}
use Rattle.line_grammar.specs.Machine.{line_for}
use Rattle.text_grammar.specs.Table.{generic, seen}
use Rattle.text_grammar.proofs.machine.find.Given as goal

-- what is left decides
abbrev pub invariant-loop-row : goal.invariant-loop-row
invariant-loop-row l = line_for generic l.kind (map seen (drop l.row-index l.rows)) ≡ line_for generic l.kind (map seen l.rows)
