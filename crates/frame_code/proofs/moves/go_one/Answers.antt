use Rattle.std.proofs.Common.{arith}
use Rattle.std.proofs.lemmas.Bool.{ltb-true, ltb-false, leb-true}
use Rattle.value_code.specs.Models.{value_of}
use Rattle.run_code.specs.Views.{ops_of, blocks_of}
use Rattle.frame_code.specs.Frames.{frames_of}
use Rattle.frame_code.proofs.MoveLaws.{not_one}
use Rattle.frame_code.proofs.moves.go_one.Goals.{in_default-via-then-ids-lt1, in_default-via-else-ids-lt1+else-ids-lt2}
use Rattle.frame_code.proofs.moves.go_one.Goals as goal

pub returns-in_default : goal.returns-in_default
returns-in_default c = λ env agrees.
    not_one c.args.ids.now (value_of c.args.x) env (ops_of c.args.ops.now) (blocks_of c.args.blocks.now) (frames_of c.args.place.now)
    (elim c.in_default.branch [ in_default-via-then-ids-lt1 w ↦ (λ h. omega (arith, ltb-true, ltb-false, leb-true, h)) | in_default-via-else-ids-lt1+else-ids-lt2 w ↦ (λ h. omega (arith, ltb-true, ltb-false, leb-true, h)) ])
