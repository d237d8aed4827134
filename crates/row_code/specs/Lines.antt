-- Rows as tables of lines.
use Rattle.std.specs.Prelude.{ℕ, ◌-◌, List, [], ◌∷◌, length, map, pos}
use Rattle.plain_tree.specs.Types.{PlainType, Int}
use Rattle.plain_tree.specs.Attrs.{Entries}
use Rattle.conversion_model.specs.declared.templates.Source.{Source}
use Rattle.conversion_model.specs.declared.templates.Source.TheVariants.{Made}
use Rattle.conversion_model.specs.Templates.{Step, Template}
use Rattle.pattern_model.specs.Drafts.{constant_value, predicate}
use Rattle.row_code.specs.declared.steps.Line.{Line}
use Rattle.row_code.specs.declared.steps.Makes.{Makes}
use Rattle.row_code.specs.declared.steps.Makes.TheVariants.{Same, Bit}
use Rattle.row_code.specs.declared.steps.Props.{Props}
use Rattle.row_code.specs.declared.steps.Props.TheVariants.{Nothing, Predicate, Constant}

abbrev pub props_of : Props → PlainType → Entries
props_of Nothing t = []
props_of (Predicate n) t = predicate n
props_of (Constant n) t = constant_value t (pos n)

abbrev pub made_of : Makes → PlainType → PlainType
made_of Same t = t
made_of Bit t = Int 1

-- an operation without successors that makes one value
abbrev pub one_step : List ℕ → List Source → Entries → PlainType → Step
one_step name sources props t = record { name = name; props = props; sources = sources; successors = []; makes = t ∷ [] }

-- the operation of a line, where the row's type is t
abbrev pub step_of : PlainType → Line → Step
step_of t l = one_step l.name.now l.sources.now (props_of l.props t) (made_of l.makes t)

-- the template of lines, whose one result is the value of the last line
abbrev pub lines_template : List Line → PlainType → Template
lines_template lines t = record { steps = map (step_of t) lines; results = Made (length lines - 1) ∷ [] }
