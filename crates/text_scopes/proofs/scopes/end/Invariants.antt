use Rattle.std.proofs.Common.{ℕ, length, reverse}
use Rattle.text_scopes.specs.Levels.{Level, Stands}
use Rattle.text_scopes.proofs.LevelLemmas.{Emptied}
use Rattle.text_scopes.proofs.scopes.end.Given as goal

-- what is left of the log empties the table
abbrev pub invariant-loop-entry : goal.invariant-loop-entry
invariant-loop-entry l = (levels : ℕ → Level) → Stands l.fn.scopes l.fn.table levels → Emptied (reverse l.scopes.log.items) l.table

abbrev pub decreases-loop-entry : goal.decreases-loop-entry
decreases-loop-entry l = length l.scopes.log.items
