use Rattle.std.proofs.Common.{◌≡◌, ◌++◌, drop, map}
use Rattle.text_refusals.specs.Refusing.{at_byte}
use Rattle.text_refusals.proofs.refusing.placed.Given as goal

-- those so far, before those of what is left
abbrev pub invariant-loop-one : goal.invariant-loop-one
invariant-loop-one l = l.all.items ++ map (at_byte l.words) (drop l.one-index l.found) ≡ map (at_byte l.words) l.found
