use Rattle.std.proofs.Common.{ap₂, subst}
use Rattle.value_code.specs.Models.{values_of}
use Rattle.run_code.specs.Views.{functions_of, packing_of}
use Rattle.frame_code.specs.Frames.{place_of}
use Rattle.machine_model.specs.Machine as model
use Rattle.step_code.specs.Turns.{Stepped}
use Rattle.machine_code.specs.Machines.{Advances, calls_named}
use Rattle.machine_code.proofs.RunLaws.{advance_went, advance_calls}
use Rattle.machine_code.proofs.runs.advance.Goals as goal

pub returns-in-Went : goal.returns-in-Went
returns-in-Went g c = λ next p cs w r.
    advance_went g.M.Memory.Stands g.M.Memory.ask (functions_of c.args.finder.now.functions.now) next c.args.machine.now c.step.new.place c.args.memory.now c.step.new.memory p cs w r
    (subst (λ t. Stepped g.M.Memory.Stands t c.step.new.place c.step.new.memory (model.step g.M.Memory.ask (place_of c.args.machine.now.place r.env) w.memory)) c.in-Went.is (c.in_ok-step.ensures w.memory r.memory r.env r.agrees))

pub returns-in_ok-call-in-Calls : goal.returns-in_ok-call-in-Calls
returns-in_ok-call-in-Calls g c = λ next p cs w r.
    advance_calls g.M.Memory.Stands g.M.Memory.ask (functions_of c.args.finder.now.functions.now) next c.in_ok-call-in-Calls.field-0 c.args.machine.now c.call.new.machine c.step.new.place c.args.memory.now c.step.new.memory c.in-Calls.callee.now.name (values_of c.in-Calls.xs)
    (packing_of c.in-Calls.packing) c.in-Calls.ids.now p cs w r
    (subst (λ t. Stepped g.M.Memory.Stands t c.step.new.place c.step.new.memory (model.step g.M.Memory.ask (place_of c.args.machine.now.place r.env) w.memory)) c.in-Calls.is (c.in_ok-step.ensures w.memory r.memory r.env r.agrees))
    (λ p1 cs1 w1 r1.
    subst (Advances g.M.Memory.Stands c.in_ok-call-in-Calls.field-0 c.call.new.machine c.step.new.memory next)
    (ap₂ (λ name xs. calls_named g.M.Memory.ask (functions_of c.args.finder.now.functions.now) next name (values_of xs) (packing_of c.in-Calls.packing) c.in-Calls.ids.now p1 cs1 w1) c.as_slice-name.ensures c.as_slice.ensures)
    (c.in_ok-call-in-Calls.ensures next p1 cs1 w1 r1))
