use Rattle.form_model.specs.Codes as codes
use Rattle.value_code.specs.Models.{values_of}
use Rattle.run_code.specs.Views.{blocks_of}
use Rattle.round_code.specs.Counts.{counting_of}
use Rattle.frame_code.specs.Frames.{turns_into, behind_of, frames_of, target_of}
use Rattle.frame_code.proofs.MoveLaws.{there, entry_some}
use Rattle.frame_code.proofs.rounds.turn.Goals as goal

pub returns-in_ok-turn_into-in-Some : goal.returns-in_ok-turn_into-in-Some
returns-in_ok-turn_into-in-Some c = λ env agrees.
    there c.in_ok-turn_into-in-Some.field-0 c.turn_into.new.place (codes.entry (blocks_of c.args.body.now)) (target_of c.in-Some.first.now)
    (λ t. turns_into t (counting_of c.args.c (blocks_of c.args.body.now)) c.args.i (values_of c.args.xs.now) (behind_of c.args.behind) env (frames_of c.args.place.now))
    (entry_some c.args.body.now c.in-Some.first.now c.in-Some.ensures.value) (c.in_ok-turn_into-in-Some.ensures env agrees)
