use Rattle.std.proofs.Common.{sym, subst}
use Rattle.operation_model.specs.Doings.{Question as question}
use Rattle.value_code.specs.Models.{place_of, values_of}
use Rattle.run_code.specs.Views.{packing_of}
use Rattle.table_code.specs.Agreement.{Agrees}
use Rattle.doing_code.specs.Doings.{Does, answered}
use Rattle.frame_code.specs.Frames.{behind_of, frames_of}
use Rattle.step_code.specs.Turns.{Stepped, performed}
use Rattle.step_code.proofs.TurnLaws.{performed_asks, performed_asked, performed_made, performed_jumps, performed_calls}
use Rattle.step_code.proofs.perform.perform.Goals as goal

pub returns-in_ok-loads-in-Loads : goal.returns-in_ok-loads-in-Loads
returns-in_ok-loads-in-Loads g c = λ d does s st env agrees.
    performed_asks g.M.Memory.Stands g.M.Memory.ask c.in_ok-loads-in-Loads.field-0 c.loads.new.place c.args.memory.now (question.Load c.in-Loads.w.bits (place_of c.in-Loads.at)) d (behind_of c.args.behind) env (frames_of c.args.place.now) s (subst (λ x. Does x d) c.in-Loads.is does)
    (c.in_ok-loads-in-Loads.ensures s st env agrees)

pub returns-in_ok-stores-in-Stores : goal.returns-in_ok-stores-in-Stores
returns-in_ok-stores-in-Stores g c = λ d does s st env agrees.
    performed_asks g.M.Memory.Stands g.M.Memory.ask c.in_ok-stores-in-Stores.field-0 c.stores.new.place c.stores.new.memory (question.Store c.in-Stores.w.bits c.in-Stores.n (place_of c.in-Stores.at)) d (behind_of c.args.behind) env (frames_of c.args.place.now) s (subst (λ x. Does x d) c.in-Stores.is does)
    (c.in_ok-stores-in-Stores.ensures s st env agrees)

pub returns-in_ok-frees-in-Frees : goal.returns-in_ok-frees-in-Frees
returns-in_ok-frees-in-Frees g c = λ d does s st env agrees.
    performed_asks g.M.Memory.Stands g.M.Memory.ask c.in_ok-frees-in-Frees.field-0 c.frees.new.place c.frees.new.memory (question.Free (place_of c.in-Frees.at)) d (behind_of c.args.behind) env (frames_of c.args.place.now) s (subst (λ x. Does x d) c.in-Frees.is does)
    (c.in_ok-frees-in-Frees.ensures s st env agrees)

pub returns-in_ok-allocates-in-Allocates : goal.returns-in_ok-allocates-in-Allocates
returns-in_ok-allocates-in-Allocates g c = λ d does s st env agrees.
    performed_asked g.M.Memory.Stands g.M.Memory.ask c.in_ok-allocates-in-Allocates.field-0 c.allocates.new.place c.allocates.new.memory c.in-Allocates.alignment c.in-Allocates.n d (behind_of c.args.behind) env (frames_of c.args.place.now) s (subst (λ x. Does x d) c.in-Allocates.is does)
    (λ size capped. c.in_ok-allocates-in-Allocates.ensures size capped s st env agrees)

pub returns-in_ok-makes-in-Makes : goal.returns-in_ok-makes-in-Makes
returns-in_ok-makes-in-Makes g c = λ d does s st env agrees.
    performed_made g.M.Memory.Stands g.M.Memory.ask c.in_ok-makes-in-Makes.field-0 c.makes.new.place c.makes.new.memory c.in-Makes.new.alignment c.in-Makes.new.bytes (values_of c.in-Makes.new.sizes) (values_of c.in-Makes.new.strides) d (behind_of c.args.behind) env (frames_of c.args.place.now) s (subst (λ x. Does x d) c.in-Makes.is does)
    (λ size capped. c.in_ok-makes-in-Makes.ensures size capped s st env agrees)

pub returns-in_ok-jump-in-Jumps : goal.returns-in_ok-jump-in-Jumps
returns-in_ok-jump-in-Jumps g c = λ d does s st env agrees.
    subst (λ t. Stepped g.M.Memory.Stands t c.jump.new.place c.args.memory.now (performed g.M.Memory.ask d (behind_of c.args.behind) env (frames_of c.args.place.now) s)) (sym c.turned-in-Jumps.ensures)
    (performed_jumps g.M.Memory.Stands g.M.Memory.ask c.in_ok-jump-in-Jumps.field-0 c.jump.new.place c.args.memory.now c.in-Jumps.label (values_of c.in-Jumps.xs) d (behind_of c.args.behind) env (frames_of c.args.place.now) s (subst (λ x. Does x d) c.in-Jumps.is does) (c.in_ok-jump-in-Jumps.ensures env agrees) st)

pub returns-in-Calls : goal.returns-in-Calls
returns-in-Calls g c = λ d does s st env agrees.
    subst (λ t. Stepped g.M.Memory.Stands t c.calls.new.place c.args.memory.now (performed g.M.Memory.ask d (behind_of c.args.behind) env (frames_of c.args.place.now) s)) (sym c.calls.ensures.turn)
    (performed_calls g.M.Memory.Stands g.M.Memory.ask c.calls.new.place c.args.memory.now c.in-Calls.callee.now.name (values_of c.in-Calls.xs) (answered (packing_of c.in-Calls.packing)) d (behind_of c.args.behind) env (frames_of c.args.place.now) s (subst (λ x. Does x d) c.in-Calls.is does)
    (c.calls.ensures.place env) (subst (λ t. Agrees t env) (sym c.calls.ensures.table) agrees) st)
