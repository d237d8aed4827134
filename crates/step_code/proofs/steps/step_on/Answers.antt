use Rattle.std.proofs.Common.{sym, subst, ap, ◌∙◌}
use Rattle.form_model.specs.Codes.{lookups}
use Rattle.run_code.specs.declared.function.Operation.{out-Operation}
use Rattle.run_code.specs.Views.{form_of, ops_of, blocks_of, regions_of}
use Rattle.value_code.specs.Models.{values_of}
use Rattle.table_code.specs.Agreement.{list_of}
use Rattle.frame_code.specs.Frames.{frames_of, place_of}
use Rattle.machine_model.specs.Machine as model
use Rattle.step_code.specs.Turns.{Stepped}
use Rattle.step_code.proofs.StepLaws.{step_is, stepped_on, stopped_there}
use Rattle.step_code.proofs.steps.step_on.Goals as goal

pub returns-in_ok-act-in-Some : goal.returns-in_ok-act-in-Some
returns-in_ok-act-in-Some g c = λ s st env agrees at.
    stepped_on g.M.Memory.Stands c.in_ok-act-in-Some.field-0 c.act.new.place c.act.new.memory s (lookups (out-Operation c.args.ahead.op.now).operands env) (values_of c.in-Some.xs)
    (λ xs. model.acts g.M.Memory.ask (form_of (out-Operation c.args.ahead.op.now).form) (out-Operation c.args.ahead.op.now).results xs (out-Operation c.args.ahead.op.now).successors (regions_of (out-Operation c.args.ahead.op.now).regions)
    (record { results = (out-Operation c.args.ahead.op.now).results; rest = ops_of c.args.ahead.rest.now; blocks = blocks_of c.args.place.now.blocks.now }) env (frames_of c.args.place.now) s)
    (model.step g.M.Memory.ask (place_of c.args.place.now env) s)
    (ap list_of (sym c.in-Some.is) ∙ c.in_ok-xs.ensures env agrees ∙ ap (λ ids. lookups ids env) c.as_slice-2.ensures)
    (step_is g.M.Memory.ask s c.args.place.now c.args.ahead.op.now c.args.ahead.rest.now env at)
    (subst
    (λ rs. Stepped g.M.Memory.Stands c.in_ok-act-in-Some.field-0 c.act.new.place c.act.new.memory
    (model.acts g.M.Memory.ask (form_of (out-Operation c.args.ahead.op.now).form) rs (values_of c.in-Some.xs) (out-Operation c.args.ahead.op.now).successors (regions_of (out-Operation c.args.ahead.op.now).regions)
    (record { results = rs; rest = ops_of c.args.ahead.rest.now; blocks = blocks_of c.args.place.now.blocks.now }) env (frames_of c.args.place.now) s))
    c.as_slice.ensures (c.in_ok-act-in-Some.ensures s st env agrees))

pub returns-in-None : goal.returns-in-None
returns-in-None g c = λ s st env agrees at.
    stopped_there s (lookups (out-Operation c.args.ahead.op.now).operands env)
    (λ xs. model.acts g.M.Memory.ask (form_of (out-Operation c.args.ahead.op.now).form) (out-Operation c.args.ahead.op.now).results xs (out-Operation c.args.ahead.op.now).successors (regions_of (out-Operation c.args.ahead.op.now).regions)
    (record { results = (out-Operation c.args.ahead.op.now).results; rest = ops_of c.args.ahead.rest.now; blocks = blocks_of c.args.place.now.blocks.now }) env (frames_of c.args.place.now) s)
    (model.step g.M.Memory.ask (place_of c.args.place.now env) s)
    (ap list_of (sym c.in-None.is) ∙ c.in_ok-xs.ensures env agrees ∙ ap (λ ids. lookups ids env) c.as_slice-2.ensures)
    (step_is g.M.Memory.ask s c.args.place.now c.args.ahead.op.now c.args.ahead.rest.now env at)
