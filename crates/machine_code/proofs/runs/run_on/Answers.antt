use Rattle.std.proofs.Common.{◌+◌, ◌-◌, subst, Some, None}
use Rattle.run_code.specs.Views.{functions_of}
use Rattle.machine_model.specs.Machine as model
use Rattle.machine_code.specs.Machines.{Advances}
use Rattle.machine_code.proofs.RunLaws.{runs_begin, runs_more, runs_over, runs_out}
use Rattle.machine_code.proofs.runs.run_on.Goals as goal

pub loop-unit-init : goal.loop-unit-init
loop-unit-init g c = λ p cs w r. runs_begin g.M.Memory.Stands g.M.Memory.ask (functions_of c.args.finder.now.functions.now) c.args.fuel c.args.machine.now c.args.memory.now p cs w r

pub returns-in-Some : goal.returns-in-Some
returns-in-Some g c = λ p cs w r.
    runs_over g.M.Memory.Stands g.M.Memory.ask (functions_of c.args.finder.now.functions.now) c.args.fuel c.loop-unit.unit c.in-Some.finish c.loop-unit.machine c.advance.new.machine c.loop-unit.memory
    (model.exec g.M.Memory.ask (functions_of c.args.finder.now.functions.now) c.args.fuel p cs w) c.loop-unit-test.true (c.loop-unit.invariant p cs w r)
    (λ p1 cs1 w1 r1. subst (λ o. Advances g.M.Memory.Stands o c.advance.new.machine c.advance.new.memory (model.exec g.M.Memory.ask (functions_of c.args.finder.now.functions.now) (c.args.fuel - (c.loop-unit.unit + 1)))
    (model.follows g.M.Memory.ask (functions_of c.args.finder.now.functions.now) (model.exec g.M.Memory.ask (functions_of c.args.finder.now.functions.now) (c.args.fuel - (c.loop-unit.unit + 1))) (model.step g.M.Memory.ask p1 w1.memory) cs1 w1))
    c.in-Some.is (c.in_ok-finish.ensures (model.exec g.M.Memory.ask (functions_of c.args.finder.now.functions.now) (c.args.fuel - (c.loop-unit.unit + 1))) p1 cs1 w1 r1))

pub loop-unit-preserved : goal.loop-unit-preserved
loop-unit-preserved g c = λ p cs w r.
    runs_more g.M.Memory.Stands g.M.Memory.ask (functions_of c.args.finder.now.functions.now) c.args.fuel c.loop-unit.unit c.loop-unit.machine c.advance.new.machine c.loop-unit.memory c.advance.new.memory
    (model.exec g.M.Memory.ask (functions_of c.args.finder.now.functions.now) c.args.fuel p cs w) c.loop-unit-test.true (c.loop-unit.invariant p cs w r)
    (λ p1 cs1 w1 r1. subst (λ o. Advances g.M.Memory.Stands o c.advance.new.machine c.advance.new.memory (model.exec g.M.Memory.ask (functions_of c.args.finder.now.functions.now) (c.args.fuel - (c.loop-unit.unit + 1)))
    (model.follows g.M.Memory.ask (functions_of c.args.finder.now.functions.now) (model.exec g.M.Memory.ask (functions_of c.args.finder.now.functions.now) (c.args.fuel - (c.loop-unit.unit + 1))) (model.step g.M.Memory.ask p1 w1.memory) cs1 w1))
    c.in_default.is (c.in_ok-finish.ensures (model.exec g.M.Memory.ask (functions_of c.args.finder.now.functions.now) (c.args.fuel - (c.loop-unit.unit + 1))) p1 cs1 w1 r1))

pub returns : goal.returns
returns g c = λ p cs w r.
    runs_out g.M.Memory.Stands g.M.Memory.ask (functions_of c.args.finder.now.functions.now) c.args.fuel c.loop-unit.unit c.loop-unit.machine c.loop-unit.memory
    (model.exec g.M.Memory.ask (functions_of c.args.finder.now.functions.now) c.args.fuel p cs w) c.loop-unit-test.false (c.loop-unit.invariant p cs w r)
