use Rattle.std.proofs.Common.{rules}
use Rattle.pattern_model.specs.FuncRows.{func_set_without_cast}
use Rattle.row_code.specs.Shapes.{shape_of}
use Rattle.func_rows.proofs.TableLaws.{no_row, row_here}
use Rattle.func_rows.proofs.set.FuncRowsRows.line.Goals as goal

pub returns-in_ok-template-in-Some : goal.returns-in_ok-template-in-Some
returns-in_ok-template-in-Some c = row_here func_set_without_cast c.entries.result.now c.args.bits c.args.at c.in-Some.entry.now (shape_of c.args.shape.now) c.in_ok-template-in-Some.template c.entries.ensures.patterns (search rules) c.in_ok-template-in-Some.ensures

pub returns-in-None : goal.returns-in-None
returns-in-None c = no_row func_set_without_cast c.entries.result.now c.args.bits c.args.at (shape_of c.args.shape.now) c.entries.ensures.patterns (search rules)
