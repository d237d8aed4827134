use Rattle.std.proofs.Common.{ℕ, suc, length, reverse}
use Rattle.text_scopes.specs.Levels.{Below, Level, Stands}
use Rattle.text_scopes.proofs.scopes.close.Given as goal

-- what is left of the log gives the levels behind the region
abbrev pub invariant-loop-entry : goal.invariant-loop-entry
invariant-loop-entry l = (levels : ℕ → Level) → Stands l.fn.scopes l.fn.table levels → Below (reverse l.scopes.log.items) l.table (λ over. levels (suc over))

abbrev pub decreases-loop-entry : goal.decreases-loop-entry
decreases-loop-entry l = length l.scopes.log.items
