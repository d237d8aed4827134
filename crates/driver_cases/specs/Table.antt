-- The patterns of a sample.
use Rattle.std.specs.Prelude.{ℕ, Bool, List, [], ◌∷◌, length, Option, Some, None, if◌then◌else◌}
use Rattle.plain_tree.specs.Types.{PlainType}
use Rattle.conversion_model.specs.Types.{becomes}
use Rattle.conversion_model.specs.Templates.{Template}
use Rattle.conversion_model.specs.Targets.{Shape}
use Rattle.conversion_model.specs.Rows.{Pattern, Straight}
use Rattle.legal_graph.specs.declared.infos.PatternInfo.{PatternInfo}
use Rattle.pattern_model.specs.Drafts.{is_plain, when}
use Rattle.row_code.specs.Infos.{texts}
use Rattle.row_code.specs.Lines.{lines_template}
use Rattle.row_code.specs.declared.steps.Line.{Line}
use Rattle.driver_cases.specs.declared.rows.Entry.{Entry}

-- what the lines of a pattern make, where the replaced operation makes a value of type t
abbrev pub type_made : Bool → ℕ → PlainType → PlainType
type_made converted bits t = if converted then becomes bits t else t

-- by the type of the one result
abbrev pub lines_of : Bool → ℕ → List Line → List PlainType → Option Template
lines_of converted bits lines (t ∷ []) = Some (lines_template lines (type_made converted bits t))
lines_of converted bits lines _ = None

-- of an operation with one result, without regions and successors
abbrev pub lines_row : Bool → List Line → ℕ → Shape → Option Template
lines_row converted lines bits o = when (is_plain (length o.operands) 1 o) (lines_of converted bits lines o.results)

abbrev pub info_at : Entry → PatternInfo
info_at e = record { root = e.root.now; benefit = e.benefit; products = texts e.products.now; converted = e.converted }

abbrev pub pattern_at : Entry → Pattern
pattern_at e = record { root = e.root.now; makes = texts e.products.now; benefit = e.benefit; is_converted = e.converted; row = λ bits. Straight (lines_row e.converted e.lines.now bits) }
