use Rattle.std.proofs.Common.{◌∷◌, []}
use Rattle.number_model.specs.Answers.{present}
use Rattle.form_model.specs.Codes as codes
use Rattle.form_model.specs.Codes.{Env}
use Rattle.table_code.specs.Agreement.{Agrees}
use Rattle.value_code.specs.Models.{values_of}
use Rattle.run_code.specs.Views.{blocks_of}
use Rattle.frame_code.specs.Frames.{goes_to, frames_of, target_of}
use Rattle.frame_code.proofs.MoveLaws.{there, entry_some}
use Rattle.frame_code.proofs.rounds.enter.Goals as goal

pub returns-in_ok-enter_block-in-Some : goal.returns-in_ok-enter_block-in-Some
returns-in_ok-enter_block-in-Some c = λ env agrees.
    there c.in_ok-enter_block-in-Some.field-0 c.enter_block.new.place (codes.entry (blocks_of c.args.region.now)) (target_of c.in-Some.first.now)
    (λ t. goes_to t.args (values_of c.args.xs.now) env t.ops (blocks_of c.args.region.now) (frames_of c.args.place.now))
    (entry_some c.args.region.now c.in-Some.first.now c.in-Some.ensures.value) (c.in_ok-enter_block-in-Some.ensures env agrees)
