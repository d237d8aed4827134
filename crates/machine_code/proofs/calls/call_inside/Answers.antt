use Rattle.std.proofs.Common.{Some, subst}
use Rattle.value_code.specs.Models.{values_of}
use Rattle.run_code.specs.Views.{function_of, packing_of}
use Rattle.machine_model.specs.Machine as model
use Rattle.machine_code.specs.Machines.{Begun}
use Rattle.machine_code.proofs.RunLaws.{went_in}
use Rattle.machine_code.proofs.calls.call_inside.Goals as goal

pub returns-in_ok-descend-in-Some : goal.returns-in_ok-descend-in-Some
returns-in_ok-descend-in-Some g c = λ next p cs w r.
    went_in g.M.Memory.Stands next c.descend.new.machine c.args.memory.now c.in-Some.place (function_of c.args.f.now) (values_of c.args.xs.now) (packing_of c.args.behind.0) c.args.behind.1.now p cs w
    (subst (λ o. Begun o (model.begins (function_of c.args.f.now) (values_of c.args.xs.now))) c.in-Some.is c.in_ok-place.ensures)
    (λ env agrees. c.in_ok-descend-in-Some.ensures env agrees p cs w r)
