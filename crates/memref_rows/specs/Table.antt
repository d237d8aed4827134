-- The table of code as patterns.
use Rattle.std.specs.Prelude.{ℕ, true, Option}
use Rattle.conversion_model.specs.Templates.{Template}
use Rattle.conversion_model.specs.Targets.{Shape}
use Rattle.conversion_model.specs.Rows.{Pattern}
use Rattle.legal_graph.specs.declared.infos.PatternInfo.{PatternInfo}
use Rattle.pattern_model.specs.ArithRows.{lowers}
use Rattle.pattern_model.specs.MemrefRows.{aligned_alloc_row, alloc_row, cast_row, dealloc_row, dim_row, load_row, rank_row, store_row}
use Rattle.row_code.specs.Infos.{says, texts}
use Rattle.memref_rows.specs.declared.table.Entry.{Entry}
use Rattle.memref_rows.specs.declared.table.Form.{Form}
use Rattle.memref_rows.specs.declared.table.Form.TheVariants.{Alloc, AlignedAlloc, Dealloc, Load, Store, Dimension, Rank, Cast}

abbrev pub form_row : Form → ℕ → Shape → Option Template
form_row Alloc = alloc_row
form_row AlignedAlloc = aligned_alloc_row
form_row Dealloc = dealloc_row
form_row Load = load_row
form_row Store = store_row
form_row Dimension = dim_row
form_row Rank = rank_row
form_row Cast = cast_row

abbrev pub info_at : Entry → PatternInfo
info_at e = says e.root.now (texts e.products.now) true

-- the pattern of a line of the table
abbrev pub pattern_at : Entry → Pattern
pattern_at e = lowers e.root.now (texts e.products.now) (form_row e.form)
