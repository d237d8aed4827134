-- The modes of code as those of the definitions.
use Rattle.conversion_model.specs.Targets as says
use Rattle.unit_views.specs.declared.demand.Mode.{Mode}
use Rattle.unit_views.specs.declared.demand.Mode.TheVariants.{Partial, Full}

abbrev pub mode_of : Mode → says.Mode
mode_of Partial = says.Partial
mode_of Full = says.Full
