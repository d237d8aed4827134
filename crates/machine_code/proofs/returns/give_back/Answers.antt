use Rattle.std.proofs.Common.{sym, subst, ap, ◌∙◌, ◌∷◌}
use Rattle.value_code.specs.Models.{values_of}
use Rattle.run_code.specs.Views.{packing_of}
use Rattle.doing_code.specs.Doings.{answered}
use Rattle.machine_model.specs.Machine as model
use Rattle.machine_code.specs.Machines.{Advances, AreCallers}
use Rattle.machine_code.proofs.RunLaws.{gave_back}
use Rattle.machine_code.proofs.returns.give_back.Goals as goal

pub returns-in_ok-resume-in-Some : goal.returns-in_ok-resume-in-Some
returns-in_ok-resume-in-Some g c = λ next cs w r.
    gave_back g.M.Memory.Stands g.M.Memory.ask next c.in_ok-resume-in-Some.field-0 c.resume.new.machine (values_of c.args.xs) c.in-Some.field-0 c.pop_front.new.self.items c.args.memory.now cs w
    (subst (λ l. AreCallers l cs) c.in-Some.ensures.items r.callers)
    (λ p1 cs1 env agrees there are. subst (λ l. Advances g.M.Memory.Stands c.in_ok-resume-in-Some.field-0 c.resume.new.machine c.args.memory.now next (model.resumes g.M.Memory.ask next (answered (packing_of c.in-Some.field-0.packing) (values_of l)) c.in-Some.field-0.results.now p1 cs1 w)) c.as_slice.ensures
    (c.in_ok-resume-in-Some.ensures next p1 cs1 w (record { env = env; agrees = agrees; place = there; callers = are; memory = r.memory; answers = r.answers; trace = r.trace })))
