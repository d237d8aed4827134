use Rattle.std.proofs.Common.{sym, subst}
use Rattle.value_code.specs.Models.{values_of}
use Rattle.run_code.specs.Views.{packing_of}
use Rattle.doing_code.specs.Doings.{answered}
use Rattle.machine_model.specs.Machine as model
use Rattle.machine_code.specs.Machines.{Advances}
use Rattle.machine_code.proofs.RunLaws.{resumed}
use Rattle.machine_code.proofs.returns.resume.Goals as goal

pub returns : goal.returns
returns g c = λ next p cs w r.
    subst (λ o. Advances g.M.Memory.Stands o (record c.args.machine.now { place = c.come_back.new.place }) c.args.memory.now next (model.resumes g.M.Memory.ask next (answered (packing_of c.args.packing) (values_of c.args.xs.now)) c.args.ids.now p cs w))
    (sym c.finish_of.ensures)
    (resumed g.M.Memory.Stands g.M.Memory.ask next c.in_ok-come_back.field-0 c.come_back.new.place (packing_of c.args.packing) c.args.ids.now (values_of c.args.xs.now) c.args.machine.now c.args.memory.now p cs w c.in_ok-come_back.ensures r)
