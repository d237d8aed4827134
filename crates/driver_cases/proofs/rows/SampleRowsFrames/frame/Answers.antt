use Rattle.std.proofs.Common.{ap}
use Rattle.cut_code.specs.Frames.{frame_or_none}
use Rattle.row_code.specs.Shapes.{shape_of}
use Rattle.driver_cases.proofs.TableLaws.{no_frame}
use Rattle.driver_cases.proofs.rows.SampleRowsFrames.frame.Goals as goal

pub returns : goal.returns
returns c = ap frame_or_none (no_frame c.args.self.now.entries.now c.args.bits c.args.at (shape_of c.args.shape.now))
