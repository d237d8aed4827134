-- A legal operation as a template.
use Rattle.std.specs.Prelude.{ℕ, Bool, true, false, map}
use Rattle.conversion_model.specs.declared.templates.Source.{Source}
use Rattle.conversion_model.specs.declared.templates.Source.TheVariants.{Operand, Made}
use Rattle.conversion_model.specs.Templates.{Step}
use Rattle.conversion_model.specs.Targets.{Shape}
use Rattle.conversion_model.specs.Chosen.{counted, places}

abbrev pub source_of : Bool → ℕ → Source
source_of true k = Made k
source_of false k = Operand k

abbrev pub own_step : Shape → Step
own_step o = record { name = o.name; props = o.props; sources = map Operand (places 0 o.operands); successors = counted 0 o.successors; makes = o.results }
