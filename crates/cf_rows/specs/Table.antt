-- The table of code as patterns.
use Rattle.std.specs.Prelude.{ℕ, true, Option}
use Rattle.conversion_model.specs.Templates.{Template}
use Rattle.conversion_model.specs.Targets.{Shape}
use Rattle.conversion_model.specs.Rows.{Pattern}
use Rattle.legal_graph.specs.declared.infos.PatternInfo.{PatternInfo}
use Rattle.pattern_model.specs.ArithRows.{lowers}
use Rattle.pattern_model.specs.CfRows.{br_row, cond_br_row, llvm_br_row, llvm_cond_br_row}
use Rattle.row_code.specs.Infos.{says, texts}
use Rattle.cf_rows.specs.declared.table.Entry.{Entry}
use Rattle.cf_rows.specs.declared.table.Form.{Form}
use Rattle.cf_rows.specs.declared.table.Form.TheVariants.{Branch, BranchOn, LlvmBranch, LlvmBranchOn}

abbrev pub form_row : Form → ℕ → Shape → Option Template
form_row Branch = br_row
form_row BranchOn = cond_br_row
form_row LlvmBranch = llvm_br_row
form_row LlvmBranchOn = llvm_cond_br_row

abbrev pub info_at : Entry → PatternInfo
info_at e = says e.root.now (texts e.products.now) true

-- the pattern of a line of the table
abbrev pub pattern_at : Entry → Pattern
pattern_at e = lowers e.root.now (texts e.products.now) (form_row e.form)
