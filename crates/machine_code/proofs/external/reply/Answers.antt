use Rattle.std.proofs.Common.{subst}
use Rattle.value_code.specs.Models.{values_of}
use Rattle.run_code.specs.Views.{bits_of, function_of, packing_of}
use Rattle.doing_code.specs.Doings.{answered}
use Rattle.machine_model.specs.Machine as model
use Rattle.machine_code.specs.Machines.{Advances}
use Rattle.machine_code.proofs.RunLaws.{replied_by}
use Rattle.machine_code.proofs.external.reply.Goals as goal

pub returns : goal.returns
returns g c = λ next p cs w r.
    replied_by g.M.Memory.Stands g.M.Memory.ask next c.in_ok-resume.field-0 c.args.machine.now c.tell.new.machine c.resume.new.machine c.args.memory.now (values_of c.in_ok-values.values) (function_of c.args.f.now) (bits_of c.args.widths.0.now) (bits_of c.args.widths.1.now) c.args.ns.now
    (packing_of c.args.behind.0) c.args.behind.1.now p cs w r c.in_ok-values.ensures
    (λ w1 r1. subst (λ l. Advances g.M.Memory.Stands c.in_ok-resume.field-0 c.resume.new.machine c.args.memory.now next (model.resumes g.M.Memory.ask next (answered (packing_of c.args.behind.0) (values_of l)) c.args.behind.1.now p cs w1)) c.as_slice.ensures
    (c.in_ok-resume.ensures next p cs w1 r1))
