use Rattle.std.proofs.Common.{◌≡◌, true, false, sym, ap, ap₂, subst, ◌∙◌}
use Rattle.value_code.specs.Models.{values_of}
use Rattle.run_code.specs.Views.{ops_of, blocks_of}
use Rattle.table_code.specs.Agreement.{Agrees}
use Rattle.round_code.specs.Counts.{counting_of}
use Rattle.machine_model.specs.Machine as model
use Rattle.frame_code.specs.Frames.{Moved, behind_of, frames_of, target_of}
use Rattle.frame_code.proofs.MoveLaws.{goes_at}
use Rattle.frame_code.proofs.rounds.test.Goals as goal

pub returns-in_ok-push : goal.returns-in_ok-push
returns-in_ok-push c = λ env agrees.
    let yes : true ≡ model.has_round (counting_of c.args.c (blocks_of c.args.body.now)) c.args.i = sym c.if-has_round.true ∙ c.has_round.ensures (blocks_of c.args.body.now) in
    record {
      env = env;
      agrees = subst (λ t. Agrees t env) (sym c.in_ok-push.ensures.table) agrees;
      is =
          sym (ap (λ b. model.tested {State = Unit {0}} b (target_of c.args.first.now) (counting_of c.args.c (blocks_of c.args.body.now)) c.args.i (values_of c.args.xs.now) (behind_of c.args.behind) env (frames_of c.args.place.now) tt) yes)
          ∙ ap₂ (λ os fs. goes_at (ops_of os) (blocks_of c.args.body.now) env fs) (sym c.as_slice-place.ensures) (sym c.in_ok-push.ensures.frames);
    }

pub returns-in_ok-leave : goal.returns-in_ok-leave
returns-in_ok-leave c = λ env agrees.
    let no : false ≡ model.has_round (counting_of c.args.c (blocks_of c.args.body.now)) c.args.i = sym c.if-has_round.false ∙ c.has_round.ensures (blocks_of c.args.body.now) in
    subst (λ b. Moved c.in_ok-leave.field-0 c.leave.new.place (model.tested b (target_of c.args.first.now) (counting_of c.args.c (blocks_of c.args.body.now)) c.args.i (values_of c.args.xs.now) (behind_of c.args.behind) env (frames_of c.args.place.now) tt))
    no (c.in_ok-leave.ensures env agrees)
