use Rattle.std.proofs.Common.{rules}
use Rattle.row_code.specs.Shapes.{shape_of}
use Rattle.driver_cases.proofs.TableLaws.{no_row, row_here}
use Rattle.driver_cases.proofs.rows.SampleRowsRows.line.Goals as goal

pub returns-in_ok-template-in-Some : goal.returns-in_ok-template-in-Some
returns-in_ok-template-in-Some c = row_here c.args.self.now.entries.now c.args.bits c.args.at c.in-Some.entry.now (shape_of c.args.shape.now) c.in_ok-template-in-Some.template (search rules) c.in_ok-template-in-Some.ensures

pub returns-in-None : goal.returns-in-None
returns-in-None c = no_row c.args.self.now.entries.now c.args.bits c.args.at (shape_of c.args.shape.now) (search rules)
