-- The table of code as patterns.
use Rattle.std.specs.Prelude.{false, List, [], ◌∷◌, Option, Some, None}
use Rattle.plain_tree.specs.Types.{PlainType}
use Rattle.conversion_model.specs.Templates.{Template}
use Rattle.conversion_model.specs.Targets.{Shape}
use Rattle.conversion_model.specs.Rows.{Pattern}
use Rattle.legal_graph.specs.declared.infos.PatternInfo.{PatternInfo}
use Rattle.pattern_model.specs.Drafts.{is_plain, when}
use Rattle.pattern_model.specs.ExpandRows.{expands}
use Rattle.row_code.specs.Infos.{says, texts}
use Rattle.row_code.specs.Lines.{lines_template}
use Rattle.row_code.specs.declared.steps.Line.{Line}
use Rattle.expand_rows.specs.declared.table.Entry.{Entry}

-- by the type of the one result
abbrev pub lines_of : List Line → List PlainType → Option Template
lines_of lines (t ∷ []) = Some (lines_template lines t)
lines_of lines _ = None

abbrev pub lines_row : List Line → Shape → Option Template
lines_row lines o = when (is_plain 2 1 o) (lines_of lines o.results)

abbrev pub info_at : Entry → PatternInfo
info_at e = says e.root.now (texts e.products.now) false

-- the pattern of a line of the table
abbrev pub pattern_at : Entry → Pattern
pattern_at e = expands e.root.now (texts e.products.now) (lines_row e.lines.now)
