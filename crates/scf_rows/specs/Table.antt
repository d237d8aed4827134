-- The table of code as patterns.
use Rattle.std.specs.Prelude.{ℕ, List, Option, false}
use Rattle.plain_tree.specs.Types.{PlainType}
use Rattle.plain_tree.specs.Ops.{Op}
use Rattle.conversion_model.specs.Rows.{Numbers, Pattern, Piece}
use Rattle.legal_graph.specs.declared.infos.PatternInfo.{PatternInfo}
use Rattle.pattern_model.specs.ScfRows.{cuts, execute_row, for_row, if_row, switch_row, while_row}
use Rattle.row_code.specs.Infos.{says, texts}
use Rattle.scf_rows.specs.declared.table.Entry.{Entry}
use Rattle.scf_rows.specs.declared.table.Form.{Form}
use Rattle.scf_rows.specs.declared.table.Form.TheVariants.{If, For, While, Switch, Execute}

abbrev pub form_row : Form → Numbers → (ℕ → PlainType) → Op → Option (List Piece)
form_row If = if_row
form_row For = for_row
form_row While = while_row
form_row Switch = switch_row
form_row Execute = execute_row

abbrev pub info_at : Entry → PatternInfo
info_at e = says e.root.now (texts e.products.now) false

-- the pattern of a line of the table
abbrev pub pattern_at : Entry → Pattern
pattern_at e = cuts e.root.now (texts e.products.now) (form_row e.form)
