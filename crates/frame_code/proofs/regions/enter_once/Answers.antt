use Rattle.std.proofs.Common.{[], subst, arith}
use Rattle.value_code.specs.Models.{values_of}
use Rattle.run_code.specs.Views.{blocks_of}
use Rattle.frame_code.specs.Frames.{Moved, behind_of, frames_of}
use Rattle.frame_code.proofs.MoveLaws.{once_full}
use Rattle.frame_code.proofs.regions.enter_once.Goals as goal

pub returns-in_ok-enter_with : goal.returns-in_ok-enter_with
returns-in_ok-enter_with c = λ env agrees.
    subst (Moved c.in_ok-enter_with.field-0 c.enter_with.new.place) (once_full c.args.region.now (behind_of c.args.behind) env (frames_of c.args.place.now) (λ h. grind (arith, h)))
    (c.in_ok-enter_with.ensures env agrees)
