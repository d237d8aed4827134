use Rattle.call_code.proofs.GatherLaws.{Sofar}
use Rattle.call_code.proofs.gathers.gathered.Given as goal

abbrev pub invariant-loop-i : goal.invariant-loop-i
invariant-loop-i l = Sofar l.shapes l.xs l.i l.rest l.all
