use Rattle.std.proofs.Common.{refl, sym, subst, ap}
use Rattle.operation_model.specs.Straight.{does}
use Rattle.run_code.specs.declared.function.Operation.{out-Operation}
use Rattle.run_code.specs.Views.{form_of, regions_of}
use Rattle.value_code.specs.Models.{values_of}
use Rattle.frame_code.specs.Frames.{behind_of, frames_of}
use Rattle.machine_model.specs.Machine as model
use Rattle.step_code.specs.Turns.{Stepped}
use Rattle.step_code.proofs.StepLaws.{act_moved, act_performed}
use Rattle.step_code.proofs.steps.act.Goals as goal

pub returns-in-Some : goal.returns-in-Some
returns-in-Some g c = λ s st env agrees.
    subst (λ t. Stepped g.M.Memory.Stands t c.moved.new.place c.args.memory.now (model.acts g.M.Memory.ask (form_of (out-Operation c.args.op.now).form) c.args.behind.results.now (values_of c.args.xs) (out-Operation c.args.op.now).successors (regions_of (out-Operation c.args.op.now).regions) (behind_of c.args.behind) env (frames_of c.args.place.now) s)) (sym c.turned.ensures)
    (act_moved g.M.Memory.Stands g.M.Memory.ask c.in-Some.m c.in_ok-m.field-0 c.args.place.now c.moved.new.place c.args.memory.now s (form_of (out-Operation c.args.op.now).form) c.args.behind.results.now (out-Operation c.args.op.now).successors
    (values_of c.as_slice.result.now) (values_of c.args.xs) (regions_of c.as_slice-regions.result.now) (regions_of (out-Operation c.args.op.now).regions) (behind_of c.args.behind) env (frames_of c.args.place.now)
    c.in-Some.is (ap values_of c.as_slice.ensures) (ap regions_of c.as_slice-regions.ensures) (c.in_ok-m.ensures env agrees) st)

pub returns : goal.returns
returns g c = λ s st env agrees.
    act_performed g.M.Memory.Stands g.M.Memory.ask c.in_ok-perform-in-None.field-0 c.in_ok-m.field-0 c.args.place.now c.moved.new.place c.perform.new.place c.perform.new.memory s (form_of (out-Operation c.args.op.now).form) c.args.behind.results.now
    (out-Operation c.args.op.now).successors c.as_slice-in-None.result.now (values_of c.as_slice.result.now) (values_of c.args.xs) (regions_of c.as_slice-regions.result.now) (regions_of (out-Operation c.args.op.now).regions) (behind_of c.args.behind) env
    c.in-None.is refl c.as_slice-in-None.ensures (c.in_ok-m.ensures env agrees) agrees
    (λ now. c.in_ok-perform-in-None.ensures (does (form_of (out-Operation c.args.op.now).form) c.as_slice-in-None.result.now (values_of c.args.xs)) c.in_ok-doing-in-None.ensures s st env now)
