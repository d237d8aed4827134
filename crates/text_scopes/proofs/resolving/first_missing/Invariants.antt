use Rattle.std.proofs.Common.{◌≡◌, ◌≤◌, drop}
use Rattle.text_scopes.specs.Sights.{first_missing}
use Rattle.text_scopes.proofs.resolving.first_missing.Given as goal

-- what is left decides
abbrev pub invariant-loop-index : goal.invariant-loop-index
invariant-loop-index l = (first_missing (drop l.index l.steps) (drop l.next l.definitions) l.index ≡ first_missing l.steps l.definitions 0) × (l.next ≤ l.index)
