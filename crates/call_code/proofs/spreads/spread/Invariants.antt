use Rattle.call_code.proofs.CallLaws.{Sofar}
use Rattle.call_code.proofs.spreads.spread.Given as goal

abbrev pub invariant-loop-i : goal.invariant-loop-i
invariant-loop-i l = Sofar l.shapes l.xs l.i l.all
