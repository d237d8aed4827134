use Rattle.std.proofs.Common.{rules}
use Rattle.pattern_model.specs.FuncRows.{func_set_without_cast}
use Rattle.row_code.specs.Shapes.{shape_of}
use Rattle.func_rows.proofs.TableLaws.{frame_here, no_frame}
use Rattle.func_rows.proofs.set.FuncRowsFrames.frame.Goals as goal

pub returns-in_ok-frame-in-Some : goal.returns-in_ok-frame-in-Some
returns-in_ok-frame-in-Some c = frame_here func_set_without_cast c.entries.result.now c.args.bits c.args.at c.in-Some.entry.now (shape_of c.args.shape.now) c.in_ok-frame-in-Some.frame c.entries.ensures.patterns (search rules) c.in_ok-frame-in-Some.ensures

pub returns-in-None : goal.returns-in-None
returns-in-None c = no_frame func_set_without_cast c.entries.result.now c.args.bits c.args.at (shape_of c.args.shape.now) c.entries.ensures.patterns (search rules)
