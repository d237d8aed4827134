use Rattle.std.proofs.Common.{sym, subst, ◌∷◌, [], Some}
use Rattle.operation_model.specs.Values as values
use Rattle.operation_model.specs.Doings.{Allocate}
use Rattle.value_code.proofs.Shapes.{value_of-Pointer}
use Rattle.memory_code.specs.Stands.{Makes}
use Rattle.frame_code.specs.Frames.{Moved, behind_of, frames_of}
use Rattle.step_code.specs.Turns.{Stepped, after, ends}
use Rattle.step_code.proofs.TurnLaws.{stepped_move, after_answers}
use Rattle.step_code.proofs.replies.allocates.Goals as goal

pub returns-in_ok-go_one-in-Some : goal.returns-in_ok-go_one-in-Some
returns-in_ok-go_one-in-Some g c = λ size capped s st env agrees.
    let now : Makes {S = g.M.Memory.State} g.M.Memory.Stands (Some c.in-Some.at) c.allocate.new.self (g.M.Memory.ask (Allocate c.args.alignment size) s) = subst (λ o. Makes {S = g.M.Memory.State} g.M.Memory.Stands o c.allocate.new.self (g.M.Memory.ask (Allocate c.args.alignment size) s)) c.in-Some.is (c.in_ok-at.ensures size capped s st) in
    subst (λ t. Stepped g.M.Memory.Stands t c.go_one.new.place c.allocate.new.self (after s (g.M.Memory.ask (Allocate c.args.alignment size) s) (behind_of c.args.behind) env (frames_of c.args.place.now))) (sym c.turned.ensures)
    (stepped_move g.M.Memory.Stands c.in_ok-go_one-in-Some.field-0 c.go_one.new.place c.allocate.new.self now.0 (ends (values.Pointer c.in-Some.at.buffer c.in-Some.at.offset ∷ []) (behind_of c.args.behind) env (frames_of c.args.place.now)) _
    (subst (λ v. Moved c.in_ok-go_one-in-Some.field-0 c.go_one.new.place (ends (v ∷ []) (behind_of c.args.behind) env (frames_of c.args.place.now))) (value_of-Pointer c.in-Some.at.buffer c.in-Some.at.offset) (c.in_ok-go_one-in-Some.ensures env agrees))
    now.2
    (after_answers s now.0 (g.M.Memory.ask (Allocate c.args.alignment size) s) (values.Pointer c.in-Some.at.buffer c.in-Some.at.offset ∷ []) (behind_of c.args.behind) env (frames_of c.args.place.now) now.1))
