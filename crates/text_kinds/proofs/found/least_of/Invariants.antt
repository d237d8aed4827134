use Rattle.std.proofs.Common.{◌≡◌, drop}
use Rattle.text_kinds.specs.Kinds.{least_from, least_of}
use Rattle.text_kinds.proofs.found.least_of.Given as goal

-- what is left decides
abbrev pub invariant-loop-one : goal.invariant-loop-one
invariant-loop-one l = least_from l.first (drop l.one-index l.all) ≡ least_of l.all
