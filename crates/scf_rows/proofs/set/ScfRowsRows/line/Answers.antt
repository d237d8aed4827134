use Rattle.row_code.specs.Shapes.{shape_of}
use Rattle.scf_rows.proofs.TableLaws.{no_line}
use Rattle.scf_rows.proofs.set.ScfRowsRows.line.Goals as goal

pub returns : goal.returns
returns c = no_line c.args._bits c.args._at (shape_of c.args._shape.now)
