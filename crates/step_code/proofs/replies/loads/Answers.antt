use Rattle.std.proofs.Common.{sym, subst, ◌∷◌, []}
use Rattle.operation_model.specs.Values as values
use Rattle.operation_model.specs.Doings.{Load}
use Rattle.value_code.specs.Models.{place_of}
use Rattle.value_code.proofs.Shapes.{value_of-Integer}
use Rattle.frame_code.specs.Frames.{Moved, behind_of, frames_of}
use Rattle.step_code.specs.Turns.{Stepped, after, ends}
use Rattle.step_code.proofs.TurnLaws.{stepped_move, after_answers}
use Rattle.step_code.proofs.replies.loads.Goals as goal

pub returns-in_ok-go_one-in-Gives : goal.returns-in_ok-go_one-in-Gives
returns-in_ok-go_one-in-Gives g c = λ s st env agrees.
    subst (λ t. Stepped g.M.Memory.Stands t c.go_one.new.place c.args.memory.now (after s (g.M.Memory.ask (Load c.args.w.bits (place_of c.args.at)) s) (behind_of c.args.behind) env (frames_of c.args.place.now))) (sym c.turned.ensures)
    (stepped_move g.M.Memory.Stands c.in_ok-go_one-in-Gives.field-0 c.go_one.new.place c.args.memory.now s (ends (values.Integer c.in-Gives.n ∷ []) (behind_of c.args.behind) env (frames_of c.args.place.now)) _
    (subst (λ v. Moved c.in_ok-go_one-in-Gives.field-0 c.go_one.new.place (ends (v ∷ []) (behind_of c.args.behind) env (frames_of c.args.place.now))) (value_of-Integer c.in-Gives.n) (c.in_ok-go_one-in-Gives.ensures env agrees))
    st
    (after_answers s s (g.M.Memory.ask (Load c.args.w.bits (place_of c.args.at)) s) (values.Integer c.in-Gives.n ∷ []) (behind_of c.args.behind) env (frames_of c.args.place.now) (sym (c.in-Gives.ensures s st))))
