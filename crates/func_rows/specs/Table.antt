-- The table of code as patterns.
use Rattle.std.specs.Prelude.{ℕ, true}
use Rattle.conversion_model.specs.Rows.{Pattern, Row, Straight, Framing}
use Rattle.legal_graph.specs.declared.infos.PatternInfo.{PatternInfo}
use Rattle.pattern_model.specs.FuncRows.{call_row, cast_row, func_row, return_row}
use Rattle.row_code.specs.Infos.{says, texts}
use Rattle.func_rows.specs.declared.table.Entry.{Entry}
use Rattle.func_rows.specs.declared.table.Form.{Form}
use Rattle.func_rows.specs.declared.table.Form.TheVariants.{Function, Call, Return, Cast}

abbrev pub form_row : Form → ℕ → Row
form_row Function bits = Framing (func_row bits)
form_row Call bits = Straight (call_row bits)
form_row Return bits = Straight (return_row bits)
form_row Cast bits = Straight (cast_row bits)

abbrev pub info_at : Entry → PatternInfo
info_at e = says e.root.now (texts e.products.now) true

-- the pattern of a line of the table
abbrev pub pattern_at : Entry → Pattern
pattern_at e = record { root = e.root.now; makes = texts e.products.now; benefit = 1; is_converted = true; row = form_row e.form }
