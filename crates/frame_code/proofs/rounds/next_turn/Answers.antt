use Rattle.value_code.specs.Models.{values_of}
use Rattle.run_code.specs.Views.{blocks_of}
use Rattle.round_code.specs.Counts.{counting_of}
use Rattle.machine_model.specs.Machine as model
use Rattle.frame_code.specs.Frames.{behind_of, frames_of}
use Rattle.frame_code.proofs.MoveLaws.{given, undefined_there, outside_there}
use Rattle.frame_code.proofs.rounds.next_turn.Goals as goal

pub returns-in_ok-turn-in-Gives : goal.returns-in_ok-turn-in-Gives
returns-in_ok-turn-in-Gives c = λ env agrees.
    given c.in_ok-turn-in-Gives.field-0 c.turn.new.place (model.next_number (counting_of c.args.c (blocks_of c.args.body.now)) c.args.i) c.in-Gives.next
    (λ next. model.turns (counting_of c.args.c (blocks_of c.args.body.now)) next (values_of c.args.xs.now) (behind_of c.args.behind) env (frames_of c.args.place.now) tt)
    (c.in-Gives.ensures (blocks_of c.args.body.now)) (c.in_ok-turn-in-Gives.ensures env agrees)

pub returns-in-Undefined : goal.returns-in-Undefined
returns-in-Undefined c = λ env agrees.
    undefined_there (model.next_number (counting_of c.args.c (blocks_of c.args.body.now)) c.args.i)
    (λ next. model.turns (counting_of c.args.c (blocks_of c.args.body.now)) next (values_of c.args.xs.now) (behind_of c.args.behind) env (frames_of c.args.place.now) tt)
    (c.in-Undefined.ensures (blocks_of c.args.body.now))

pub returns-in-Outside : goal.returns-in-Outside
returns-in-Outside c = λ env agrees.
    outside_there (model.next_number (counting_of c.args.c (blocks_of c.args.body.now)) c.args.i)
    (λ next. model.turns (counting_of c.args.c (blocks_of c.args.body.now)) next (values_of c.args.xs.now) (behind_of c.args.behind) env (frames_of c.args.place.now) tt)
    (c.in-Outside.ensures (blocks_of c.args.body.now))
