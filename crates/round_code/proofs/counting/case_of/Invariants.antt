use Rattle.std.proofs.Common.{◌≡◌, ◌+◌, drop}
use Rattle.machine_model.specs.Machine as model
use Rattle.round_code.proofs.counting.case_of.Given as goal

abbrev pub invariant-loop-i : goal.invariant-loop-i
invariant-loop-i l = model.case_of l.w.bits l.n (l.i + 1) (drop l.i l.cases) ≡ model.case_of l.w.bits l.n 1 l.cases
