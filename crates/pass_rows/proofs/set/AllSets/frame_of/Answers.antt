use Rattle.row_code.specs.Shapes.{shape_of}
use Rattle.pass_rows.proofs.KindLaws.{no_frames}
use Rattle.pass_rows.proofs.set.AllSets.frame_of.Goals as goal

pub returns-in_default : goal.returns-in_default
returns-in_default c = no_frames c.args.place.part c.args.bits c.args.place.at (shape_of c.args.shape.now) c.in_default.not-Func
