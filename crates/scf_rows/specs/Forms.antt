-- The cuts of the rows by their forms.
use Rattle.std.specs.Prelude.{List, Option, codes}
use Rattle.plain_tree.specs.Attrs.{entry, plain_entries}
use Rattle.cut_code.specs.declared.pieces.PieceTree.{PieceTree}
use Rattle.cut_code.specs.declared.sketch.OpSketch.{OpSketch}
use Rattle.scf_rows.specs.declared.table.Form.{Form}
use Rattle.scf_rows.specs.declared.table.Form.TheVariants.{If, For, While, Switch, Execute}
use Rattle.scf_rows.specs.Trees.{case_numbers, execute_trees, for_trees, if_trees, switch_trees, while_trees}

abbrev pub form_trees : Form → OpSketch → Option (List PieceTree)
form_trees If s = if_trees s.results s.operands s.regions s.successors
form_trees For s = for_trees s.results s.operands s.regions s.successors
form_trees While s = while_trees s.results s.operands s.regions s.successors
form_trees Switch s = switch_trees s.results s.operands (case_numbers (entry (codes "cases") (plain_entries s.props))) s.regions s.successors
form_trees Execute s = execute_trees s.results s.operands s.regions s.successors
