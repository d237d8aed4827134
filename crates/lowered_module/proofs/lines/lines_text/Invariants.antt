use Rattle.std.proofs.Common.{◌≡◌, ◌++◌, drop}
use Rattle.lowered_module.specs.Lines.{lines_text}
use Rattle.lowered_module.proofs.lines.lines_text.Given as goal

abbrev pub invariant-each : goal.invariant-each
invariant-each l = l.text ++ lines_text (drop l.line-index l.lines) ≡ lines_text l.lines
