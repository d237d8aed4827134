-- The table of code as patterns.
use Rattle.std.specs.Prelude.{ℕ, true, List, [], ◌∷◌, Option}
use Rattle.std.specs.Borrow.{Bor}
use Rattle.conversion_model.specs.Templates.{Template}
use Rattle.conversion_model.specs.Targets.{Shape}
use Rattle.conversion_model.specs.Rows.{Pattern}
use Rattle.legal_graph.specs.declared.infos.PatternInfo.{PatternInfo}
use Rattle.pattern_model.specs.ArithRows.{lowers, binary_row, cmpi_row, constant_row, extended_row, extreme_row, flagged_row, index_cast_row, select_row, trunci_row}
use Rattle.row_code.specs.Infos.{says, texts}
use Rattle.arith_rows.specs.declared.table.Entry.{Entry}
use Rattle.arith_rows.specs.declared.table.Form.{Form}
use Rattle.arith_rows.specs.declared.table.Form.TheVariants.{Constant, Flagged, Binary, Compare, Select, Extended, Truncated, IndexCast, Extreme}

-- the first name
abbrev pub name_at : List (Bor (List ℕ)) → List ℕ
name_at [] = []
name_at (t ∷ ts) = t.now

abbrev pub form_row : Form → List ℕ → ℕ → Shape → Option Template
form_row Constant name = constant_row
form_row Flagged name = flagged_row name
form_row Binary name = binary_row name
form_row Compare name = cmpi_row
form_row Select name = select_row
form_row Extended name = extended_row name
form_row Truncated name = trunci_row
form_row IndexCast name = index_cast_row name
form_row (Extreme n) name = extreme_row n

abbrev pub info_at : Entry → PatternInfo
info_at e = says e.root.now (texts e.products.now) true

-- the pattern of a line of the table
abbrev pub pattern_at : Entry → Pattern
pattern_at e = lowers e.root.now (texts e.products.now) (form_row e.form (name_at e.products.now))
