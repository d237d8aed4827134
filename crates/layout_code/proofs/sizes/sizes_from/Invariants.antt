use Rattle.layout_code.proofs.SizeLaws.{Sofar}
use Rattle.layout_code.proofs.sizes.sizes_from.Given as goal

abbrev pub invariant-loop-i : goal.invariant-loop-i
invariant-loop-i l = Sofar l.bits.bits l.fixed l.xs l.i l.rest l.all
