use Rattle.std.proofs.Common.{[], sym, ap, subst}
use Rattle.operation_model.specs.Doings.{Jumps}
use Rattle.value_code.specs.Models.{looked_of}
use Rattle.frame_code.specs.Frames.{place_of}
use Rattle.machine_model.specs.Machine as model
use Rattle.step_code.specs.Turns.{Stepped}
use Rattle.step_code.proofs.PairLaws.{branch_went, pair_undefined, pair_outside}
use Rattle.step_code.proofs.steps.step_branch.Goals as goal

pub returns-in_ok-jump_bare-in-Gives : goal.returns-in_ok-jump_bare-in-Gives
returns-in_ok-jump_bare-in-Gives g c = λ s st env agrees at paired.
    subst (λ t. Stepped g.M.Memory.Stands t c.jump_bare.new.place c.args.memory.now (model.step g.M.Memory.ask (place_of c.args.place.now env) s)) (sym c.turned.ensures)
    (branch_went g.M.Memory.Stands g.M.Memory.ask c.in_ok-jump_bare-in-Gives.field-0 c.args.place.now c.jump_bare.new.place c.args.memory.now s c.args.ahead.op.now c.args.ahead.rest.now c.as_slice-results.result.now env c.args.l c.in-Gives.label
    c.in-Gives.is at c.as_slice-results.ensures paired (c.in_ok-jump_bare-in-Gives.ensures env agrees) st)

pub returns-in-Undefined : goal.returns-in-Undefined
returns-in-Undefined g c = λ s st env agrees at paired.
    pair_undefined g.M.Memory.Stands g.M.Memory.ask c.args.place.now c.args.place.now c.args.memory.now s c.args.ahead.op.now c.args.ahead.rest.now c.as_slice-results.result.now env (looked_of c.args.l) (λ n. Jumps n [])
    (ap looked_of c.in-Undefined.is) at c.as_slice-results.ensures paired

pub returns-in-Outside : goal.returns-in-Outside
returns-in-Outside g c = λ s st env agrees at paired.
    pair_outside g.M.Memory.Stands g.M.Memory.ask c.args.place.now c.args.place.now c.args.memory.now s c.args.ahead.op.now c.args.ahead.rest.now c.as_slice-results.result.now env (looked_of c.args.l) (λ n. Jumps n [])
    (ap looked_of c.in-Outside.is) at c.as_slice-results.ensures paired
