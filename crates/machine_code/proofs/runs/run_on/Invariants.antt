use Rattle.std.proofs.Common.{◌-◌, List}
use Rattle.machine_model.specs.Machine as model
use Rattle.machine_model.specs.Worlds.{World}
use Rattle.run_code.specs.Views.{functions_of}
use Rattle.machine_code.specs.Machines.{Onward, Runs}
use Rattle.machine_code.proofs.runs.run_on.Given as goal

abbrev pub invariant-loop-unit : goal.invariant-loop-unit
invariant-loop-unit g l = (p : model.Place) (cs : List model.Caller) (w : World g.M.Memory.State) → Runs g.M.Memory.Stands l.initial.machine l.initial.memory p cs w
    → Onward g.M.Memory.Stands l.machine l.memory (model.exec g.M.Memory.ask (functions_of l.finder.functions.now) (l.fuel - l.unit)) (model.exec g.M.Memory.ask (functions_of l.finder.functions.now) l.fuel p cs w)
