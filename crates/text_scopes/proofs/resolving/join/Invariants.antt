use Rattle.std.proofs.Common.{◌≡◌, ◌++◌, drop, reverse}
use Rattle.text_scopes.specs.Sights.{join}
use Rattle.text_scopes.proofs.resolving.join.Given as goal

-- what was joined so far, and what is left, is the whole
abbrev pub invariant-loop-one : goal.invariant-loop-one
invariant-loop-one l = l.all.items ++ join l.last (drop l.one-index l.behind) (reverse l.left.items) ≡ join l.last l.behind (reverse l.fn.ahead.items)
