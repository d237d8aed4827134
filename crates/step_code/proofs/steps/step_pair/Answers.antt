use Rattle.std.proofs.Common.{◌∷◌, [], sym, ap, subst}
use Rattle.operation_model.specs.Doings.{Ends}
use Rattle.run_code.specs.Views.{blocks_of, ops_of}
use Rattle.value_code.specs.Models.{integer_of}
use Rattle.value_code.proofs.Shapes.{value_of-Integer}
use Rattle.frame_code.specs.Frames.{Moved, frames_of, goes_to, place_of}
use Rattle.machine_model.specs.Machine as model
use Rattle.step_code.specs.Turns.{Stepped}
use Rattle.step_code.proofs.PairLaws.{pair_went, pair_undefined, pair_outside}
use Rattle.step_code.proofs.steps.step_pair.Goals as goal

pub returns-in_ok-go_one-in-Gives : goal.returns-in_ok-go_one-in-Gives
returns-in_ok-go_one-in-Gives g c = λ s st env agrees at paired.
    subst (λ t. Stepped g.M.Memory.Stands t c.go_one.new.place c.args.memory.now (model.step g.M.Memory.ask (place_of c.args.place.now env) s)) (sym c.turned.ensures)
    (pair_went g.M.Memory.Stands g.M.Memory.ask c.in_ok-go_one-in-Gives.field-0 c.args.place.now c.go_one.new.place c.args.memory.now s c.args.ahead.op.now c.args.ahead.rest.now c.as_slice-results.result.now env c.args.l c.in-Gives.n
    c.in-Gives.is at c.as_slice-results.ensures paired
    (subst (λ v. Moved c.in_ok-go_one-in-Gives.field-0 c.go_one.new.place (goes_to c.as_slice-results.result.now (v ∷ []) env (ops_of c.args.ahead.rest.now) (blocks_of c.args.place.now.blocks.now) (frames_of c.args.place.now))) (value_of-Integer c.in-Gives.n) (c.in_ok-go_one-in-Gives.ensures env agrees))
    st)

pub returns-in-Undefined : goal.returns-in-Undefined
returns-in-Undefined g c = λ s st env agrees at paired.
    pair_undefined g.M.Memory.Stands g.M.Memory.ask c.args.place.now c.args.place.now c.args.memory.now s c.args.ahead.op.now c.args.ahead.rest.now c.as_slice-results.result.now env (integer_of c.args.l) Ends
    (ap integer_of c.in-Undefined.is) at c.as_slice-results.ensures paired

pub returns-in-Outside : goal.returns-in-Outside
returns-in-Outside g c = λ s st env agrees at paired.
    pair_outside g.M.Memory.Stands g.M.Memory.ask c.args.place.now c.args.place.now c.args.memory.now s c.args.ahead.op.now c.args.ahead.rest.now c.as_slice-results.result.now env (integer_of c.args.l) Ends
    (ap integer_of c.in-Outside.is) at c.as_slice-results.ensures paired
